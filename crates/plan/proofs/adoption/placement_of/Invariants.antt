use Rattle.std.proofs.Common.{◌≡◌, take}
use Rattle.plan.specs.Adoption.{laid}
use Rattle.plan.proofs.adoption.placement_of.Given as goal

abbrev pub invariant-loop-i : goal.invariant-loop-i
invariant-loop-i l = l.next.cores ≡ laid (take l.i l.entries)
