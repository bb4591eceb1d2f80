-- Iteration from below comes to the least fixed point. Assumes nothing.
use Rattle.std.proofs.Common.{◌≡◌, ℕ, ◌<◌, ◌≤◌, sym, subst, arith}
use Rattle.analysis.specs.Times.{IsTime, Late}

-- t has not passed any fixed point, and one step does not go back
pub record Under (f : ℕ → ℕ) (t : ℕ) : Type 0 where
  pub grows : t ≤ f t
  pub least : (s : ℕ) → f s ≡ s → t ≤ s

module _ (f : ℕ → ℕ) (rises : (t s : ℕ) → t ≤ s → f t ≤ f s) where
  pub under_step : (t n : ℕ) → n ≡ f t → Under f t → Under f n
  under_step t n e u =
      subst (Under f) (sym e) (record { grows = rises t (f t) u.grows; least = λ s h. omega (arith, rises t s (u.least s h)) })

pub under_start : (f : ℕ → ℕ) (c : ℕ) → ((t : ℕ) → c ≤ f t) → Under f c
under_start f c above = record { grows = above c; least = λ s e. omega (arith, above s) }

pub under_found : (f : ℕ → ℕ) (most t : ℕ) → Under f t → f t ≡ t → t ≤ most → IsTime f most t
under_found f most t u e h = ((e, h), λ s w. u.least s w.0)

pub under_late : (f : ℕ → ℕ) (most t : ℕ) → Under f t → most < t → Late f most
under_late f most t u h s w = omega (arith, u.least s w.0)
