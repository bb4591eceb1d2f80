use Rattle.std.proofs.Common.{◌+◌, ◌-◌}
use Rattle.analysis.specs.Demand.{state_of_placed}
use Rattle.analysis.proofs.Steps.{Reached}
use Rattle.analysis.proofs.placed.TaskAt.response.Given as goal

abbrev pub invariant-loop-t : goal.invariant-loop-t
invariant-loop-t g l = Reached (g.B.Arbiter.bound l.arbiter) (state_of_placed l.self.placed) l.self.i l.task l.t

abbrev pub decreases-loop-t : goal.decreases-loop-t
decreases-loop-t g l = l.last + 1 - l.t
