-- What a trial answers, from what it found on its way. Assumes nothing.
use Rattle.std.proofs.Common.{◌≡◌, ℕ, Bool, true, false, cond, ltb, List, length, set, is_some, Some, None, Ok, Err, Option, Result, sym, refl, ap, ◌∙◌, subst, arith}
use Rattle.std.proofs.lemmas.List.{set-set, set-get_or}
use Rattle.terms.specs.Cores.{numbered}
use Rattle.terms.specs.Refusals.{told}
use Rattle.terms.specs.declared.cores.Core.{Core}
use Rattle.terms.specs.Units.{Picos}
use Rattle.terms.specs.declared.refusal.Refusal.{Refusal}
use Rattle.arbiter.specs.declared.question.Question.{Question}
use Rattle.tables.specs.Layout.{Tabled}
use Rattle.analysis.specs.Demand.{State}
use Rattle.analysis.specs.Placed.{core_at}
use Rattle.analysis.specs.Times.{FirstLate, Times}
use Rattle.plan.specs.Born.{tables_in}
use Rattle.plan.specs.Calls.{Asked, place_asks, replaced}
use Rattle.plan.specs.Trial.{after_checks, trial_refusal, Tried}
use Rattle.plan.proofs.Outcomes.{examined}
use Rattle.plan.proofs.Retimings.{over}

-- a partition placed, and then put back on its former core
pub put_back : (before during after : List (Option Core)) (i : ℕ) (x former : Option Core) → during ≡ set before i x → former ≡ core_at before i → after ≡ set during i former → after ≡ before
put_back before during after i x former put was back =
    back ∙ ap (λ (p : List (Option Core)). set p i former) put ∙ set-set before i x former ∙ ap (λ o. set before i o) was ∙ set-get_or before i None

not_none : {X Y : Type 0} (x : X) → ◌≡◌ {A = Option X} (Some x) None → Y
not_none x e = let z : ◌≡◌ {A = ℕ} 0 1 = cc in absurd (let f : ⊥ = omega arith in f)

-- where every check passes, place asks for a state
passed : (a b c d : Bool) (n : State) (t u v w : ℕ × ℕ) → after_checks (cond a (cond b (Ok n) (Err t)) (Err u)) (cond c (Some v) (cond d (Some w) None)) ≡ None → ◌≡◌ {A = Asked} (cond a (cond b (Ok n) (Err t)) (Err u)) (Ok n)
passed true true c d n t u v w e = refl
passed true false c d n t u v w e = not_none t e
passed false b c d n t u v w e = not_none u e

module _ (s : State) (partition core : ℕ) where
  -- the state with the partition placed
  abbrev pub tried : State
  tried = replaced s (set s.placement partition (numbered core))

  -- a copy of the tables, with the partition placed
  pub tried_on : (copy : Tabled) (during : List (Option Core)) (x : Option Core) → copy ≡ tables_in s → during ≡ set s.placement partition x → x ≡ numbered core → over copy during ≡ tried
  tried_on copy during x copied put numbers =
      ap (λ (t : Tabled). over t during) copied ∙ ap (λ p. over (tables_in s) p) (put ∙ ap (λ o. set s.placement partition o) numbers)

module _ (s : State) (partition core : ℕ) (bound : Question → ℕ) (old : List Picos) (free : trial_refusal s partition core (length old) ≡ None) where
  asked : place_asks s partition core ≡ Ok (tried s partition core)
  asked =
      passed (ltb partition (length s.partitions)) (ltb core s.cores) (is_some (core_at s.placement partition)) (ltb (length old) (length s.tasks))
      (tried s partition core) (10, core) (9, partition) (16, partition) (17, length s.tasks) free

  pub trial_late : (m : State) (k : ℕ) (e : Refusal) → m ≡ tried s partition core → told e ≡ (15, k) → FirstLate bound m (Some k) → Tried bound s partition core (trial_refusal s partition core (length old)) old (Err e) old
  trial_late m k e same tells late =
      subst (λ o. Tried bound s partition core o old (Err e) old) (sym free)
      (record {
        first = Err e;
        m = s;
        place = examined bound s (tried s partition core) s (place_asks s partition core) (Err e) asked ((k, tells, subst (λ n. FirstLate bound n (Some k)) same late), refl);
        times = (refl, refl);
      })

  pub trial_done : (m : State) (r : Result (Unit {0}) Refusal) (new : List Picos) → m ≡ tried s partition core → FirstLate bound m None → Times bound m old r new → Tried bound s partition core (trial_refusal s partition core (length old)) old r new
  trial_done m r new same timely filled =
      subst (λ o. Tried bound s partition core o old r new) (sym free)
      (record {
        first = Ok tt;
        m = tried s partition core;
        place = examined bound s (tried s partition core) (tried s partition core) (place_asks s partition core) (Ok tt) asked (subst (λ n. FirstLate bound n None) same timely, refl);
        times = subst (λ n. Times bound n old r new) same filled;
      })
