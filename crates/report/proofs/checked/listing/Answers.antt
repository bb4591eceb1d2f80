use Rattle.std.proofs.Common.{◌∙◌}
use native.Mathlib.Nat.{min-eq_left}
use Rattle.plan.specs.Born.{state_of}
use Rattle.report.proofs.Judging.{listed_times}
use Rattle.report.proofs.checked.listing.Goals as goal

pub returns-clause-listed : goal.returns-clause-listed
returns-clause-listed g c =
    listed_times (g.B.Arbiter.bound c.args.arbiter.now) (state_of c.args.plan.now) _ c.times.new.out c.new.result c.in_ok-times.ensures.1
    c.new.ensures.entries (c.new.ensures.count ∙ min-eq_left c.task_count-count.ensures.few ∙ c.task_count-count.ensures.is) c.args.out.now c.write_listing.new.out c.write_listing.result c.write_listing.ensures.written
