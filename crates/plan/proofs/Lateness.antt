-- When a call is refused as late. Assumes nothing.
use Rattle.std.proofs.Common.{◌≡◌, ℕ, ◌<◌, Bool, true, false, cond, ltb, length, get_or, set, Some, None, Ok, Err, Option, Result, sym, refl, ap, ◌∙◌, subst, inl, inr, arith, length-set}
use Rattle.std.proofs.lemmas.List.{get_or-set_same, get_or-set_other}
use Rattle.std.proofs.lemmas.Bool.{cases_eq, ltb-true}
use Rattle.terms.specs.Checks.{first_out}
use Rattle.terms.specs.declared.refusal.Refusal.{Refusal}
use Rattle.arbiter.specs.declared.question.Question.{Question}
use Rattle.tables.specs.Ranges.{no_task}
use Rattle.tables.specs.Retimed.{retimed, numbers_in_range}
use Rattle.tables.specs.declared.model.Task.{Task}
use Rattle.tables.specs.declared.numbers.Numbers.{Numbers}
use Rattle.analysis.specs.Demand.{State, task}
use Rattle.analysis.specs.Easing.{Eased}
use Rattle.analysis.specs.Times.{FirstLate}
use Rattle.analysis.proofs.Eases.{in_time_kept}
use Rattle.analysis.proofs.Rise.{Rises}
use Rattle.plan.specs.Calls.{Asked, Call, with_numbers, ranged, retime_asks}
use Rattle.plan.specs.History.{asks}
use Rattle.plan.specs.Rehearsal.{RefusedLate, LateExactly, Easing}
use Rattle.plan.specs.declared.change.Change.{Change}
use Rattle.plan.specs.declared.change.Change.TheVariants.{Adopt, Place, Withdraw, Retime}
use Rattle.plan.proofs.OnlyOne.{not_both}
use Rattle.plan.proofs.Timely.{Timely}

-- a call whose checks pass
exactly : (bound : Question → ℕ) (s z n : State) (r : Result (Unit {0}) Refusal) → Call bound s (Ok n) r z → LateExactly bound n r
exactly bound s z n (Ok u) call = record {
  when_late = λ w. absurd (not_both bound n w.0 (call.0 w.0 w.1) w.2);
  names_first = λ k h. absurd h;
}
exactly bound s z n (Err e) call =
    let w = call.0 in
    record {
      when_late = λ _. (w.0, w.1);
      names_first = λ k h. subst (λ j. FirstLate bound n (Some j)) (ap (λ (p : ℕ × ℕ). p.1) (sym w.1 ∙ h)) w.2;
    }

pub late_exactly : (bound : Question → ℕ) (s z n : State) (asked : Asked) (r : Result (Unit {0}) Refusal) → Call bound s asked r z → asked ≡ Ok n → LateExactly bound n r
late_exactly bound s z n asked r call e = exactly bound s z n r (subst (λ (a : Asked). Call bound s a r z) e call)

-- a call that asks for a state in which every task is in time is not refused as late
not_late : (bound : Question → ℕ) (s z : State) (asked : Asked) (r : Result (Unit {0}) Refusal) (k : ℕ) → Call bound s asked r z → ((m : State) → asked ≡ Ok m → Timely bound m) → ((t : ℕ × ℕ) → asked ≡ Err t → t.0 ≡ 15 → ⊥) → RefusedLate r k → ⊥
not_late bound s z (Err t) (Ok u) k call timely other late = late
not_late bound s z (Err t) (Err e) k call timely other late = other t refl (ap (λ (p : ℕ × ℕ). p.0) (sym call.0 ∙ late))
not_late bound s z (Ok m) (Ok u) k call timely other late = late
not_late bound s z (Ok m) (Err e) k call timely other late =
    let w = call.0 in not_both bound m w.0 (timely m refl w.0 w.2.0) w.2.1

-- what a retime asks for, where it asks for a state
asked_state : (b : Bool) (o : Option ℕ) (w : State) (i : ℕ) (m : State) → cond b (ranged o w) (Err (11, i)) ≡ Ok m → (b ≡ true) × (w ≡ m)
asked_state true None w i m e = (refl, cc)
asked_state true (Some p) w i m e = let z : ◌≡◌ {A = ℕ} 0 1 = cc in absurd (omega arith)
asked_state false o w i m e = let z : ◌≡◌ {A = ℕ} 0 1 = cc in absurd (omega arith)

-- the number of a check that fails
abbrev number_in : Asked → ℕ
number_in (Ok m) = 0
number_in (Err t) = t.0

asked_check : (b : Bool) (o : Option ℕ) (w : State) (i : ℕ) (t : ℕ × ℕ) → cond b (ranged o w) (Err (11, i)) ≡ Err t → t.0 ≡ 15 → ⊥
asked_check true None w i t e f = let z : ◌≡◌ {A = ℕ} 0 1 = cc in omega arith
asked_check true (Some p) w i t e f = let z : ◌≡◌ {A = ℕ} 14 15 = ap (λ (x : Asked). number_in x) e ∙ f in omega arith
asked_check false o w i t e f = let z : ◌≡◌ {A = ℕ} 11 15 = ap (λ (x : Asked). number_in x) e ∙ f in omega arith

same : (x : Task) → Eased x x
same x = record {
  partition = refl;
  execution = λ q h. omega arith;
  requests = λ q h. omega arith;
  period = omega arith;
  deadline = omega arith;
}

module _ (bound : Question → ℕ) (rises : Rises bound) (s : State) (periodic : (k : ℕ) → k < length s.tasks → 0 < (task s k).period.0) where
  -- easing a task leaves every task in time
  eased_timely : (i : ℕ) (n : Numbers) → i < length s.tasks → Eased (get_or s.tasks i no_task) (retimed (get_or s.tasks i no_task) n) → Timely bound s → Timely bound (with_numbers s i n)
  eased_timely i n within eased timely j below =
      let ts = s.tasks in
      let y = retimed (get_or ts i no_task) n in
      let long = length-set ts i y in
      let each : (k : ℕ) → Eased (get_or ts k no_task) (get_or (set ts i y) k no_task) = λ k.
      elim (cases_eq k i) [
        | inl e ↦ subst (λ (m : ℕ). Eased (get_or ts m no_task) (get_or (set ts i y) m no_task)) (sym e) (subst (Eased (get_or ts i no_task)) (sym (get_or-set_same ts i y no_task within)) eased)
        | inr ne ↦ subst (Eased (get_or ts k no_task)) (sym (get_or-set_other ts i k y no_task ne)) (same (get_or ts k no_task))
      ]
      in
      in_time_kept s (set ts i y) long each periodic bound rises j (omega arith) (timely j (omega arith))

  pub easing_not_late : (c : Change) (z : State) (r : Result (Unit {0}) Refusal) (k : ℕ) → Easing s c → Timely bound s → Call bound s (asks s c) r z → RefusedLate r k → ⊥
  easing_not_late (Adopt entries) z r k easing timely call late = easing
  easing_not_late (Place partition core) z r k easing timely call late = easing
  easing_not_late (Withdraw partition) z r k easing timely call late = easing
  easing_not_late (Retime i n) z r k easing timely call late =
      let test = ltb i (length s.tasks) in
      let checks = first_out 0 (numbers_in_range n) in
      not_late bound s z (retime_asks s i n) r k call
      (λ m e.
      let w = asked_state test checks (with_numbers s i n) i m e in
      subst (Timely bound) w.1 (eased_timely i n (ltb-true i (length s.tasks) w.0) easing timely))
      (λ t e f. asked_check test checks (with_numbers s i n) i t e f)
      late
