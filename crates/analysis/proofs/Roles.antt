-- The parts that the tasks play in the demand of a task, and what they come to. Assumes nothing.
use Rattle.std.proofs.Common.{◌≡◌, ℕ, zero, suc, ◌+◌, ◌*◌, ◌<◌, ◌≤◌, Bool, true, false, cond, ◌&&◌, eqb, ltb, List, length, get_or, Some, None, Option, sym, refl, ap, ◌∙◌, inl, inr, arith}
use Rattle.std.proofs.lemmas.Bool.{eq-eqb, ne_eqb, eqb-true, lt-ltb, le-ltb, and_parts, cond-true, cond-false, cases_Bool, cases_eq, cases_lt}
use Rattle.terms.specs.Cores.{number_of}
use Rattle.terms.specs.Sums.{sum_where}
use Rattle.terms.specs.declared.cores.Core.{Core}
use Rattle.arbiter.specs.declared.question.Question.{Question}
use Rattle.arbiter.specs.declared.question.Sharing.{Sharing}
use Rattle.tables.specs.Ranges.{execution_on, requests_on}
use Rattle.tables.specs.declared.model.Task.{Task}
use Rattle.analysis.specs.Demand.{State, task, place, on, beside, ahead, own, others, demand, own_jobs, other_jobs}
use Rattle.analysis.specs.Placed.{core_at, is_core, sharing_of}
use Rattle.analysis.specs.Roles.{part, role, is_ahead, is_on, all_ahead, all_on}
use Rattle.analysis.specs.declared.role.Role.{Role}
use Rattle.analysis.specs.declared.role.Role.TheVariants.{Aside, Ahead, Other}
use Rattle.analysis.proofs.Asked.{asked, same_asked}

-- sums are equal under tests that agree
sum_same : (d e : ℕ → Bool) (f : ℕ → ℕ) (n : ℕ) → ((k : ℕ) → k < n → d k ≡ e k) → sum_where n d f ≡ sum_where n e f
sum_same d e f zero same = refl
sum_same d e f (suc n) same =
    let before = sum_same d e f n (λ k h. same k (omega arith)) in
    let here = ap (λ b. cond b (f n) 0) (same n (omega arith)) in
    omega arith

-- the numbers below i among those below n
sum_front : (i : ℕ) (test : ℕ → Bool) (f : ℕ → ℕ) (n : ℕ) → i ≤ n → sum_where n (λ k. ltb k i && test k) f ≡ sum_where i test f
sum_front i test f zero h = let z : i ≡ 0 = omega arith in sym (ap (λ (m : ℕ). sum_where m test f) z)
sum_front i test f (suc n) h =
    elim (cases_lt n i) [
      | inl more ↦
          let all : suc n ≡ i = omega arith in
          sum_same (λ k. ltb k i && test k) test f (suc n) (λ k below. ap (λ b. b && test k) (lt-ltb k i (omega arith)))
          ∙ ap (λ (m : ℕ). sum_where m test f) all
      | inr less ↦
          let off = ap (λ b. cond (b && test n) (f n) 0) (le-ltb n i less) in
          omega (arith, sum_front i test f n less)
    ]

-- none, or all that pass
sum_unless : (b : Bool) (test : ℕ → Bool) (f : ℕ → ℕ) (n : ℕ) → sum_where n (λ k. cond b false (test k)) f ≡ cond b 0 (sum_where n test f)
sum_unless false test f n = refl
sum_unless true test f zero = refl
sum_unless true test f (suc n) = omega (arith, sum_unless true test f n)

-- the part of a task at place o in the demand of a task on core p; a says whether it is ahead
module _ (p : Core) where
  abbrev of_core : Bool → Bool → Core → Role
  of_core a same q = cond same (cond a Ahead Aside) (Other q)

  not_ahead : (o : Option Core) → is_ahead (part false p o) ≡ false
  not_ahead None = refl
  not_ahead (Some q) = elim (eqb (number_of q) (number_of p)) as (λ b. is_ahead (of_core false b q) ≡ false) [ true ↦ refl | false ↦ refl ]

  not_on : (a : Bool) (q : ℕ) (c : Core) → is_on q (of_core a true c) ≡ false
  not_on true q c = refl
  not_on false q c = refl

  -- it is on another core q if it is placed there
  on_other : (a : Bool) (q : ℕ) (o : Option Core) → is_on q (part a p o) ≡ cond (eqb q (number_of p)) false (is_core o q)
  on_other a q None = elim (eqb q (number_of p)) as (λ b. false ≡ cond b false false) [ true ↦ refl | false ↦ refl ]
  on_other a q (Some c) =
      let m = number_of c in
      let n = number_of p in
      elim (cases_eq m n) [
        | inl same ↦
            ap (λ b. is_on q (of_core a b c)) (eq-eqb m n same) ∙ not_on a q c
            ∙ elim (cases_eq q n) [
              | inl own ↦ sym (cond-true (eqb q n) false (eqb m q) (eq-eqb q n own))
              | inr other ↦ sym (cond-false (eqb q n) false (eqb m q) (ne_eqb q n other) ∙ ne_eqb m q (λ e. other (sym e ∙ same)))
            ]
        | inr apart ↦
            ap (λ b. is_on q (of_core a b c)) (ne_eqb m n apart)
            ∙ elim (cases_eq q n) [
              | inl own ↦ ne_eqb m q (λ e. apart (e ∙ own)) ∙ sym (cond-true (eqb q n) false (eqb m q) (eq-eqb q n own))
              | inr other ↦ sym (cond-false (eqb q n) false (eqb m q) (ne_eqb q n other))
            ]
      ]

module _ (s : State) (i : ℕ) (p : Core) (at : place s i ≡ Some p) where
  abbrev ahead_at : ℕ → Bool
  ahead_at k = ltb k i && beside s i k

  -- a task of the partition of task i is on the core of task i
  is_ahead_role : (k : ℕ) → is_ahead (role s i p k) ≡ ahead_at k
  is_ahead_role k =
      elim (cases_Bool (ahead_at k)) [
        | inl is ↦
            let beside-it = (and_parts (ltb k i) (beside s i k) is).1 in
            let on-it : place s k ≡ Some p = ap (core_at s.placement) (eqb-true (task s k).partition (task s i).partition beside-it) ∙ at in
            ap (λ a. is_ahead (part a p (place s k))) is ∙ ap (λ (o : Option Core). is_ahead (part true p o)) on-it
            ∙ ap (λ b. is_ahead (of_core p true b p)) (eq-eqb (number_of p) (number_of p) refl) ∙ sym is
        | inr isnt ↦ ap (λ a. is_ahead (part a p (place s k))) isnt ∙ not_ahead p (place s k) ∙ sym isnt
      ]

  module _ (roles : List Role) (each : (k : ℕ) → k < length s.tasks → get_or roles k Aside ≡ role s i p k) (within : i < length s.tasks) (t : ℕ) where
    same_ahead : (weight : Task → ℕ) → all_ahead s.tasks roles weight t ≡ ahead s i weight t
    same_ahead weight =
        let share = λ (k : ℕ). own_jobs (task s k) t * weight (task s k) in
        sum_same (λ k. is_ahead (get_or roles k Aside)) ahead_at share (length s.tasks) (λ k h. ap is_ahead (each k h) ∙ is_ahead_role k)
        ∙ sum_front i (beside s i) share (length s.tasks) (omega arith)

    same_on : (q : ℕ) → all_on s.tasks roles q t ≡ others s (number_of p) q t
    same_on q =
        let share = λ (k : ℕ). other_jobs (task s k) t * requests_on (task s k) q in
        sum_same (λ k. is_on q (get_or roles k Aside)) (λ k. cond (eqb q (number_of p)) false (on s q k)) share (length s.tasks) (λ k h. ap (is_on q) (each k h) ∙ on_other p (ahead_at k) q (place s k))
        ∙ sum_unless (eqb q (number_of p)) (on s q) share (length s.tasks)

    -- the demand, from the parts
    pub same_demand : (bound : Question → ℕ) (cost count : ℕ) (sharing : Sharing) → cost ≡ execution_on (task s i) (number_of p) → count ≡ requests_on (task s i) (number_of p) → sharing ≡ sharing_of s.placement s.links → cost + all_ahead s.tasks roles (λ x. execution_on x (number_of p)) t + bound (asked p t (count + all_ahead s.tasks roles (λ x. requests_on x (number_of p)) t) (λ q. all_on s.tasks roles q t) sharing) ≡ demand s bound i p t
    same_demand bound cost count sharing eq-cost eq-count eq-sharing =
        let time = same_ahead (λ x. execution_on x (number_of p)) in
        let requests = same_ahead (λ x. requests_on x (number_of p)) in
        let same = ap bound (same_asked p t (count + all_ahead s.tasks roles (λ x. requests_on x (number_of p)) t) (own s i (number_of p) t) (λ q. all_on s.tasks roles q t) (λ q. others s (number_of p) q t) sharing (sharing_of s.placement s.links) (omega arith) same_on eq-sharing) in
        omega arith
