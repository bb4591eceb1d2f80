-- What the jobs of one task ask for at most. Assumes nothing.
use Rattle.std.proofs.Common.{◌≡◌, ℕ, ◌+◌, ◌*◌, ◌≤◌, add-mul, one-mul, arith}

-- k shares of at most m, and one more
pub one_more : (z s x k m : ℕ) → z ≡ s + x → s ≤ k * m → x ≤ m → z ≤ (k + 1) * m
one_more z s x k m e h l = let d = add-mul k 1 m in let o = one-mul m in omega arith

-- k shares of at most m, with nothing added
pub no_more : (z s k m : ℕ) → z ≡ s → s ≤ k * m → z ≤ (k + 1) * m
no_more z s k m e h = let d = add-mul k 1 m in let o = one-mul m in omega arith
