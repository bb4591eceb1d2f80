use Rattle.std.proofs.Common.{◌+◌, ◌-◌}
use Rattle.analysis.specs.Demand.{state_of_placed}
use Rattle.analysis.specs.Times.{AllInTime}
use Rattle.analysis.proofs.Steps.{Reached}
use Rattle.analysis.proofs.placed.Placed.first_late.Given as goal

abbrev pub invariant-steps : goal.invariant-steps
invariant-steps g l = Reached (g.B.Arbiter.bound l.arbiter) (state_of_placed l.self) l.i l.task l.t

abbrev pub decreases-steps : goal.decreases-steps
decreases-steps g l = l.last + 1 - l.t

abbrev pub invariant-tasks : goal.invariant-tasks
invariant-tasks g l = AllInTime (g.B.Arbiter.bound l.arbiter) (state_of_placed l.self) l.i
