-- The bounds of our pile, by its settings alone. Assumes nothing.
use Rattle.std.proofs.Common.{◌≡◌, ℕ, ◌+◌, ◌*◌, ◌≤◌, min, sym, refl, subst, arith, lit≤}
use Rattle.terms.specs.Cores.{number_of}
use Rattle.arbiter.specs.Bounds.{request_bound, job_bound}
use Rattle.arbiter.specs.Cores.{sum_apart, sum_sharing}
use Rattle.arbiter.specs.Questions.{count}
use Rattle.arbiter.specs.Refreshes.{refreshed}
use Rattle.arbiter.specs.Settled.{settled}
use Rattle.arbiter.specs.Station.{OurPile}
use Rattle.arbiter.specs.declared.banks.Banks.{Banks}
use Rattle.arbiter.specs.declared.job_driven.JobDriven.{JobDriven}
use Rattle.arbiter.specs.declared.lesser.Lesser.{Lesser}
use Rattle.arbiter.specs.declared.question.Question.{Question}
use Rattle.arbiter.specs.declared.question.Sharing.{Sharing}
use Rattle.arbiter.specs.declared.request_driven.RequestDriven.{RequestDriven}
use Rattle.arbiter.specs.Rising.{request_rises, job_rises}
use Rattle.analysis.proofs.Rise.{Rises}
use Rattle.report.specs.Checked.{pile_bound}
use Rattle.report.specs.Worked.{UnderOurs, RefreshAdds}
use Rattle.terms.specs.Units.{amount}

-- the bounds on n cores with the wait l between banks
module _ (n l : ℕ) where
  abbrev between_by : Question → ℕ → ℕ
  between_by x p = sum_apart n x.sharing p (λ q. count x q * l)

  abbrev inter_by : Sharing → ℕ → ℕ
  inter_by s p = sum_apart n s p (λ q. l)

  abbrev request_by : ℕ → ℕ → Question → ℕ
  request_by conflict reorder x =
      settled n x (x.own.0 * (inter_by x.sharing (number_of x.core) + reorder + sum_sharing n x.sharing (number_of x.core) (λ q. conflict + inter_by x.sharing q)))

  abbrev job_by : ℕ → Question → ℕ
  job_by conflict x =
      settled n x (between_by x (number_of x.core) + sum_sharing n x.sharing (number_of x.core) (λ q. count x q * conflict + between_by x q))

-- the bounds of our pile for n cores
abbrev pub our_request : ℕ → Question → ℕ
our_request n q = request_by n 48750 60000 5000 q

abbrev pub our_job : ℕ → Question → ℕ
our_job n q = job_by n 48750 60000 q

abbrev pub our_bound : ℕ → Question → ℕ
our_bound n q = min (our_request n q) (our_job n q)

module _ (n : ℕ) (a : Lesser RequestDriven JobDriven) (o : OurPile n a) where
  pub request_is : (q : Question) → request_bound a.first q ≡ our_request n q
  request_is q = λ i. request_by (o.first.0 i) (o.first.1 i) (o.first.2 i) (o.reorder i) q

  pub job_is : (q : Question) → job_bound a.second q ≡ our_job n q
  job_is q = λ i. job_by (o.second.0 i) (o.second.1 i) (o.second.2 i) q

  pub bound_is : pile_bound a ≡ our_bound n
  bound_is = λ i q. min (request_is q i) (job_is q i)

pile_rises : (a : Lesser RequestDriven JobDriven) → Rises (pile_bound a)
pile_rises a x y m = omega (arith, request_rises a.first x y m, job_rises a.second x y m)

-- what holds of that bound, since it rises, holds under every such pile
pub under_ours : (n : ℕ) (P : (Question → ℕ) → Type 0) → (Rises (our_bound n) → P (our_bound n)) → UnderOurs n P
under_ours n P h a o = let is = bound_is n a o in subst P (sym is) (h (subst Rises is (pile_rises a)))

-- there is such a pile for each number of cores
pub our_piles : (n : ℕ) → 1 ≤ n → n ≤ 4 → (a : Lesser RequestDriven JobDriven) × OurPile n a
our_piles n some four =
    let banks : Banks = record {
      cores = n;
      l = amount 48750;
      conflict = amount 60000;
      some = some;
      four = four;
      short = lit≤ tt;
      brief = lit≤ tt;
    } in (
      record { first = record { banks = banks; reorder = amount 5000; quick = lit≤ tt }; second = record { banks = banks } },
      record { first = (refl, refl, refl); reorder = refl; second = (refl, refl, refl) },
    )

pub once : RefreshAdds 7800000 350000
once below q e small = subst (λ t. refreshed 7800000 350000 t (below q) ≡ below q + 350000) (sym e) (omega arith)

pub twice : RefreshAdds 7800001 700000
twice below q e small = subst (λ t. refreshed 7800000 350000 t (below q) ≡ below q + 700000) (sym e) (omega arith)
