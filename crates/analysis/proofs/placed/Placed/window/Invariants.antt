use Rattle.analysis.specs.Demand.{state_of_placed}
use Rattle.analysis.specs.Windows.{Largest}
use Rattle.analysis.proofs.placed.Placed.window.Given as goal

abbrev pub invariant-loop-i : goal.invariant-loop-i
invariant-loop-i g l = Largest (g.B.Arbiter.bound l.arbiter) (state_of_placed l.self) l.partition l.i l.largest
