-- One change more is rehearsed. Assumes nothing.
use Rattle.std.proofs.Common.{◌≡◌, ℕ, ◌+◌, ◌<◌, ◌≤◌, List, [], ◌∷◌, ◌++◌, length, get_or, take, set, sym, ap, ◌∙◌, subst, inl, inr, arith, length-set}
use Rattle.std.proofs.lemmas.List.{take_more, get_or-set_same, get_or-set_other, get_or_read}
use Rattle.std.proofs.lemmas.Bool.{cases_eq}
use Rattle.arbiter.specs.declared.question.Question.{Question}
use Rattle.analysis.specs.Demand.{State, task}
use Rattle.analysis.proofs.Rise.{Rises}
use Rattle.plan.specs.History.{History}
use Rattle.plan.specs.Rehearsal.{After, Played, At, no_outcome}
use Rattle.plan.specs.declared.change.Change.{Change}
use Rattle.plan.specs.declared.outcome.Outcome.{Outcome}
use Rattle.plan.proofs.Lateness.{late_exactly, easing_not_late}
use Rattle.plan.proofs.OnlyOne.{call_only, history_only, history_more}
use Rattle.plan.proofs.Timely.{history_timely, call_timely, told_in_time}

-- what one call promises
after : (bound : Question → ℕ) → Rises bound → (file : List ℕ) (earlier : List Change) (c : Change) (o : Outcome) (s z : State) → ((k : ℕ) → k < length s.tasks → 0 < (task s k).period.0) → History bound file earlier s → Played bound s c o z → After bound file earlier c o
after bound rises file earlier c o s z periodic h played =
    let timely = history_timely bound file earlier s h in
    record {
      before = s;
      after = z;
      history = h;
      call = played.call;
      in_time = told_in_time bound z o.times (call_timely bound s z _ o.verdict timely played.call) played.filled;
      late = λ n e. late_exactly bound s z n _ o.verdict played.call e;
      easing = λ easing k late. easing_not_late bound rises s periodic c z o.verdict k easing timely played.call late;
      one_before = λ y other. history_only bound file earlier y s other h;
      one_answer = λ r y other. call_only bound s y z _ r o.verdict other played.call;
    }

-- the first k changes are rehearsed, and the plan says s
pub record Upto (bound : Question → ℕ) (file : List ℕ) (changes : List Change) (old : List Outcome) (k : ℕ) (s : State) (new : List Outcome) : Type 0 where
  pub long : length new ≡ length old
  pub each : (j : ℕ) (c : Change) → j < k → At changes j c → After bound file (take j changes) c (get_or new j no_outcome)
  pub rest : (j : ℕ) → k ≤ j → get_or new j no_outcome ≡ get_or old j no_outcome
  pub history : History bound file (take k changes) s

pub upto_more : (bound : Question → ℕ) → Rises bound → (file : List ℕ) (changes : List Change) (old : List Outcome) (k : ℕ) (s z : State) (new : List Outcome) (c : Change) (o : Outcome) → ((j : ℕ) → j < length s.tasks → 0 < (task s j).period.0) → At changes k c → k < length new → Upto bound file changes old k s new → Played bound s c o z → Upto bound file changes old (k + 1) z (set new k o)
upto_more bound rises file changes old k s z new c o periodic at room u played =
    let here = after bound rises file (take k changes) c o s z periodic u.history played in
    let pushed : take (k + 1) changes ≡ take k changes ++ (c ∷ []) = take_more changes k c at.0 ∙ ap (λ x. take k changes ++ (x ∷ [])) (sym at.1) in
    record {
      long = length-set new k o ∙ u.long;
      each = λ j d below there.
          elim (cases_eq j k) [
            | inl e ↦
                let same : d ≡ c = get_or_read changes j d there.0 there.1 c ∙ ap (λ (i : ℕ). get_or changes i c) e ∙ sym at.1 in
                subst (λ (i : ℕ). After bound file (take i changes) d (get_or (set new k o) i no_outcome)) (sym e)
                (subst (λ (x : Change). After bound file (take k changes) x (get_or (set new k o) k no_outcome)) (sym same)
                (subst (After bound file (take k changes) c) (sym (get_or-set_same new k o no_outcome room)) here))
            | inr ne ↦ subst (After bound file (take j changes) d) (sym (get_or-set_other new k j o no_outcome ne)) (u.each j d (omega arith) there)
          ];
      rest = λ j h. get_or-set_other new k j o no_outcome (λ e. omega arith) ∙ u.rest j (omega arith);
      history = subst (λ cs. History bound file cs z) (sym pushed) (history_more bound file (take k changes) c s z o.verdict u.history played.call);
    }
