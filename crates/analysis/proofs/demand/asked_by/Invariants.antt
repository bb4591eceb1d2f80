use Rattle.terms.specs.Cores.{number_of}
use Rattle.analysis.proofs.Asking.{Asking}
use Rattle.analysis.proofs.demand.asked_by.Given as goal

abbrev pub invariant-loop-k : goal.invariant-loop-k
invariant-loop-k l = Asking l.tasks l.roles.of (number_of l.p) l.t.t.0 l.k l.execution l.requests l.others
