use Rattle.std.proofs.Common.{◌≡◌, ℕ, ◌*◌, ◌^◌, ◌≤◌, Bool}
use Rattle.terms.specs.Sums.{sum_where}
use Rattle.arbiter.specs.Cores.{Tests, Terms}
use Rattle.arbiter.proofs.sums.sum_over.Given as goal

abbrev pub invariant-loop-q : goal.invariant-loop-q
invariant-loop-q g l =
    (l.sum.0 ≤ l.q * 10 ^ 18)
    × ((passes : ℕ → Bool) (f : ℕ → ℕ) → Tests l.n (goal.T-post g l.test) passes → Terms l.n (goal.F-post g l.term) f → l.sum.0 ≡ sum_where l.q passes f)
