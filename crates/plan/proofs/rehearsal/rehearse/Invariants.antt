use Rattle.plan.specs.Born.{state_of}
use Rattle.plan.proofs.Rehearsals.{Upto}
use Rattle.plan.proofs.rehearsal.rehearse.Given as goal

abbrev pub invariant-loop-k : goal.invariant-loop-k
invariant-loop-k g l = Upto (g.B.Arbiter.bound l.arbiter) l.file l.changes l.initial.log l.k (state_of l.plan) l.log
