use Rattle.std.proofs.Common.{◌≡◌, max, get_or, Some, sym, ap, ◌∙◌, rules}
use Rattle.terms.specs.Units.{Picos}
use Rattle.tables.specs.Ranges.{no_task}
use Rattle.analysis.specs.Demand.{State, state_of_placed, task}
use Rattle.analysis.specs.Times.{TimeIs}
use Rattle.analysis.proofs.Wide.{largest_passed, largest_more}
use Rattle.analysis.proofs.placed.Placed.window.Goals as goal
use Rattle.analysis.proofs.placed.Placed.window.Goals.{then-task-partition+in-Some, else-task-partition}

pub loop-i-preserved : goal.loop-i-preserved
loop-i-preserved g c =
    let bound = g.B.Arbiter.bound c.args.arbiter.now in
    let s : State = state_of_placed c.args.self.now in
    let p = c.args.partition in
    let i = c.loop-i.i in
    let v = c.loop-i.largest in
    let here : (task s i).partition ≡ (get_or c.tasks-task-items.result.now i no_task).partition = ap (λ xs. (get_or xs i no_task).partition) (sym c.tasks-task-items.ensures.is) in
    elim c.if-task-partition.branch [
      | then-task-partition+in-Some w ↦
          let time : TimeIs bound s i (Some w.in-Some.time) = rw (w.at.ensures.0, w.at.ensures.1) at w.in-Some.ensures in
          largest_more bound s p i v w.in-Some.time c.loop-i.invariant (here ∙ w.if-task-partition.true) time c.if-task-partition.largest (ap (λ (x : Picos). x.0) w.largest-is ∙ (let m : w.max-largest.result.0 ≡ max v.0 w.in-Some.time.0 = search rules in m))
      | else-task-partition w ↦
          largest_passed bound s p i v c.if-task-partition.largest c.loop-i.invariant w.largest-is (λ e. w.if-task-partition.false (sym here ∙ e))
    ]
