-- The largest time of a partition's tasks, one task more at a time. Assumes nothing.
use Rattle.std.proofs.Common.{◌≡◌, ℕ, ◌+◌, ◌<◌, ◌≤◌, max, Some, sym, refl, ap, ◌∙◌, subst, inl, inr, arith}
use Rattle.std.proofs.lemmas.Bool.{cases_eq, cases_lt}
use Rattle.terms.specs.Units.{amount, Picos}
use Rattle.arbiter.specs.declared.question.Question.{Question}
use Rattle.tables.specs.Ranges.{no_time}
use Rattle.analysis.specs.Demand.{State, task}
use Rattle.analysis.specs.Times.{TimeIs}
use Rattle.analysis.specs.Windows.{Of, Largest}

module _ (bound : Question → ℕ) (s : State) (p : ℕ) where
  pub largest_none : Largest bound s p 0 no_time
  largest_none = record { each = λ k h. absurd (omega (arith, h.0)); reached = inl refl }

  further : (n k : ℕ) → Of bound s p n k → Of bound s p (n + 1) k
  further n k h = (omega (arith, h.0), h.1)

  -- a task of another partition
  pub largest_passed : (n : ℕ) (v w : Picos) → Largest bound s p n v → w ≡ v → ((task s n).partition ≡ p → ⊥) → Largest bound s p (n + 1) w
  largest_passed n v w l same other =
      subst (Largest bound s p (n + 1)) (sym same) (record {
        each = λ k h. elim (cases_eq k n) [
          | inl e ↦ absurd (other (ap (λ (j : ℕ). (task s j).partition) (sym e) ∙ h.1))
          | inr ne ↦ l.each k (omega (arith, h.0), h.1)
        ];
        reached = elim l.reached [ inl z ↦ inl z | inr w ↦ inr (w.0, further n w.0 w.1, w.2) ];
      })

  module _ (n : ℕ) (v t : Picos) (l : Largest bound s p n v) (mine : (task s n).partition ≡ p) (is : TimeIs bound s n (Some t)) where
    -- a time that is greater
    raised : v.0 < t.0 → Largest bound s p (n + 1) t
    raised more = record {
      each = λ k h. elim (cases_eq k n) [
        | inl e ↦ subst (λ (j : ℕ). (u : Picos) × TimeIs bound s j (Some u) × (u.0 ≤ t.0)) (sym e) (t, is, omega arith)
        | inr ne ↦ let w = l.each k (omega (arith, h.0), h.1) in (w.0, w.1, omega (arith, w.2))
      ];
      reached = inr (n, (omega arith, mine), is);
    }

    -- one that is not
    kept : t.0 ≤ v.0 → Largest bound s p (n + 1) v
    kept less = record {
      each = λ k h. elim (cases_eq k n) [
        | inl e ↦ subst (λ (j : ℕ). (u : Picos) × TimeIs bound s j (Some u) × (u.0 ≤ v.0)) (sym e) (t, is, less)
        | inr ne ↦ l.each k (omega (arith, h.0), h.1)
      ];
      reached = elim l.reached [ inl z ↦ inl z | inr w ↦ inr (w.0, further n w.0 w.1, w.2) ];
    }

    pub largest_more : (w : Picos) → w.0 ≡ max v.0 t.0 → Largest bound s p (n + 1) w
    largest_more w e =
        elim (cases_lt v.0 t.0) [
          | inl more ↦ let is : t.0 ≡ w.0 = omega (arith, more) in subst (Largest bound s p (n + 1)) (ap amount is) (raised more)
          | inr less ↦ let is : v.0 ≡ w.0 = omega (arith, less) in subst (Largest bound s p (n + 1)) (ap amount is) (kept less)
        ]
