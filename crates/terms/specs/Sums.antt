-- The one way in which this product sums. Assumes nothing.
use Rattle.std.specs.Prelude.{ℕ, zero, suc, ◌+◌, Bool, cond}

-- the sum of f over the numbers below n that pass a test
abbrev pub sum_where : ℕ → (ℕ → Bool) → (ℕ → ℕ) → ℕ
sum_where zero test f = 0
sum_where (suc k) test f = sum_where k test f + cond (test k) (f k) 0
