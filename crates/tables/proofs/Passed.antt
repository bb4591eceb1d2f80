-- Numbers that pass their checks are in range. Assumes nothing.
use Rattle.std.proofs.Common.{◌≡◌, ℕ, zero, suc, ◌+◌, ◌^◌, ◌≤◌, Bool, true, false, leb, List, [], ◌∷◌, get_or, None, refl, ap, arith}
use Rattle.std.proofs.lemmas.List.{get_or_past}
use Rattle.std.proofs.lemmas.Bool.{and_parts, leb-true}
use Rattle.terms.specs.Checks.{within, first_out}
use Rattle.tables.specs.Ranges.{no_time, no_requests, Period}
use Rattle.tables.specs.Retimed.{numbers_in_range}
use Rattle.tables.specs.declared.numbers.Numbers.{Numbers}

-- where no test fails, each passes
pub each_passes : (k : ℕ) (tests : List Bool) → first_out k tests ≡ None → (i : ℕ) → get_or tests i true ≡ true
each_passes k [] e i = refl
each_passes k (true ∷ rest) e zero = refl
each_passes k (true ∷ rest) e (suc i) = each_passes (k + 1) rest e i
each_passes k (false ∷ rest) e i = let z : ◌≡◌ {A = ℕ} 0 1 = cc in absurd (omega arith)

pub in_range : (least most x : ℕ) → within least most x ≡ true → (least ≤ x) × (x ≤ most)
in_range least most x e = let p = and_parts (leb least x) (leb x most) e in (leb-true least x p.0, leb-true x most p.1)

module _ (n : Numbers) (passed : first_out 0 (numbers_in_range n) ≡ None) where
  at : (i : ℕ) → get_or (numbers_in_range n) i true ≡ true
  at = each_passes 0 (numbers_in_range n) passed

  pub period_in_range : Period n.period.0
  period_in_range = in_range (10 ^ 9) (10 ^ 13) n.period.0 (at 0)

  pub deadline_in_range : (1 ≤ n.deadline.0) × (n.deadline.0 ≤ 10 ^ 13)
  deadline_in_range = in_range 1 (10 ^ 13) n.deadline.0 (at 1)

  execution_short : (q : ℕ) → (get_or n.execution q no_time).0 ≤ 10 ^ 13
  execution_short zero = (in_range 1 (10 ^ 13) _ (at 2)).1
  execution_short (suc zero) = (in_range 1 (10 ^ 13) _ (at 3)).1
  execution_short (suc (suc zero)) = (in_range 1 (10 ^ 13) _ (at 4)).1
  execution_short (suc (suc (suc zero))) = (in_range 1 (10 ^ 13) _ (at 5)).1
  execution_short (suc (suc (suc (suc q)))) =
      omega (arith, ap (λ x. x.0) (get_or_past n.execution (suc (suc (suc (suc q)))) no_time (omega (arith, n.four.0))))

  requests_few : (q : ℕ) → (get_or n.requests q no_requests).0 ≤ 10 ^ 6
  requests_few zero = (in_range 0 (10 ^ 6) _ (at 6)).1
  requests_few (suc zero) = (in_range 0 (10 ^ 6) _ (at 7)).1
  requests_few (suc (suc zero)) = (in_range 0 (10 ^ 6) _ (at 8)).1
  requests_few (suc (suc (suc zero))) = (in_range 0 (10 ^ 6) _ (at 9)).1
  requests_few (suc (suc (suc (suc q)))) =
      omega (arith, ap (λ x. x.0) (get_or_past n.requests (suc (suc (suc (suc q)))) no_requests (omega (arith, n.four.1))))

  pub job_in_range : (q : ℕ) → ((get_or n.execution q no_time).0 ≤ 10 ^ 13) × ((get_or n.requests q no_requests).0 ≤ 10 ^ 6)
  job_in_range q = (execution_short q, requests_few q)
