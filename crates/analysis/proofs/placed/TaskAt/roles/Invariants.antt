use Rattle.std.proofs.Common.{◌≡◌, ℕ, ◌<◌, length, get_or}
use Rattle.analysis.specs.Demand.{state_of_placed}
use Rattle.analysis.specs.Roles.{role}
use Rattle.analysis.specs.declared.role.Role.TheVariants.{Aside}
use Rattle.analysis.proofs.placed.TaskAt.roles.Given as goal

abbrev pub invariant-loop-k : goal.invariant-loop-k
invariant-loop-k l =
    ((k : ℕ) → k < l.k → get_or l.of k Aside ≡ role (state_of_placed l.self.placed) l.self.i l.p k) × (length l.of ≡ 64)
