use Rattle.std.proofs.Common.{◌≡◌, Some, Option, sym, subst}
use Rattle.tables.specs.Retimed.{Retimes}
use Rattle.tables.specs.Tabled.{tabled}
use Rattle.tables.specs.declared.timing.Timing.{Timing}
use Rattle.analysis.specs.Times.{FirstLate}
use Rattle.plan.specs.Born.{state_of}
use Rattle.plan.proofs.Retimings.{retime_late, over}
use Rattle.plan.proofs.plan.Plan.retime.Goals as goal

pub returns-in-Err : goal.returns-in-Err
returns-in-Err g c =
    let made = c.in_ok-timing.ensures in
    let late = c.in-Err.ensures in
    let told : c.retime.result ≡ Some c.in_ok-former.former = c.in_ok-former.ensures.ok_part in
    let given = subst (λ (r : Option Timing). Retimes (tabled c.args.self.now.tables) c.args.task c.in_ok-timing.timing r (tabled c.retime.new.self)) told c.retime.ensures in
    let at : FirstLate (g.B.Arbiter.bound c.args.arbiter.now) (over (tabled c.retime.new.self) c.args.self.now.placement.cores) (Some late.0) =
    rw (sym c.new-placed.ensures.0, sym c.new-placed.ensures.1) late.2 in
    retime_late (state_of c.args.self.now) c.args.task c.args.numbers c.in_ok-timing.timing made.1
    (Unit {0}) (g.B.Arbiter.bound c.args.arbiter.now) c.in_ok-former.former (tabled c.retime.new.self) (tabled c.undo.new.tables) c.undo.ensures.0 late.0 c.in-Err.late late.1
    made.0 given c.undo.ensures.1 at
