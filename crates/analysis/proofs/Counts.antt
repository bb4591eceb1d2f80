-- Jobs: how many there are at most, and that they rise with the time. Assumes nothing.
use Rattle.std.proofs.Common.{ℕ, zero, suc, ◌+◌, ◌-◌, ◌*◌, ◌/◌, ◌<◌, ◌≤◌, le_trans, le-div_iff_mul-le, div-mul-le_self, arith}
use native.Mathlib.Nat.{div-zero}
use Rattle.analysis.specs.Demand.{jobs}

div_rises : (k a b : ℕ) → a ≤ b → a / k ≤ b / k
div_rises zero a b h = rw (div-zero a, div-zero b) (omega arith)
div_rises (suc k) a b h =
    let positive : 0 < suc k = omega arith in
    let fits : a / suc k * suc k ≤ b = le_trans (div-mul-le_self a (suc k)) h in
    (le-div_iff_mul-le positive).1 fits

pub jobs_rise : (period t s : ℕ) → t ≤ s → jobs t period ≤ jobs s period
jobs_rise period t s h = div_rises period (t + (period - 1)) (s + (period - 1)) (omega arith)
