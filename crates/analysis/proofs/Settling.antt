-- A function that rises has a least fixed point below each t that it does not pass. Assumes nothing.
use Rattle.std.proofs.Common.{ℕ, zero, suc, ◌+◌, ◌≤◌, refl, inl, inr, arith}
use Rattle.std.proofs.lemmas.Bool.{cases_eq}
use Rattle.analysis.specs.Times.{IsTime}
use Rattle.analysis.proofs.Least.{Under, under_step, under_found}

module _ (f : ℕ → ℕ) (rises : (t s : ℕ) → t ≤ s → f t ≤ f s) (most : ℕ) (top : ℕ) (kept : f top ≤ top) (within : top ≤ most) where
  -- from t, which has not passed any fixed point, in at most so many steps
  climb : (left t : ℕ) → Under f t → t ≤ top → top ≤ t + left → (s : ℕ) × IsTime f most s
  climb zero t u below reach =
      elim (cases_eq (f t) t) [
        | inl e ↦ (t, under_found f most t u e (omega arith))
        | inr ne ↦ absurd (ne (omega (arith, u.grows, rises t top below, kept)))
      ]
  climb (suc left) t u below reach =
      elim (cases_eq (f t) t) [
        | inl e ↦ (t, under_found f most t u e (omega arith))
        | inr ne ↦
            let up = u.grows in
            let over = rises t top below in
            climb left (f t) (under_step f rises t (f t) refl u) (omega (arith, kept)) (omega arith)
      ]

  pub settles : (s : ℕ) × IsTime f most s
  settles = climb top 0 (record { grows = omega arith; least = λ s e. omega arith }) (omega arith) (omega arith)
