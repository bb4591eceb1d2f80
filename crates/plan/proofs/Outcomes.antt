-- What a call answers, from what it asks for. Assumes nothing.
use Rattle.std.proofs.Common.{◌≡◌, ℕ, Ok, Err, Result, sym, refl, subst}
use Rattle.terms.specs.Refusals.{told}
use Rattle.terms.specs.declared.refusal.Refusal.{Refusal}
use Rattle.arbiter.specs.declared.question.Question.{Question}
use Rattle.analysis.specs.Demand.{State}
use Rattle.plan.specs.Calls.{Call, Asked}

-- a check has failed, and the state stands
pub refused : {U : Type 0} (bound : Question → ℕ) (s : State) (asked : Asked) (e : Refusal) (r : Result U Refusal) → asked ≡ Err (told e) → r ≡ Err e → Call bound s asked r s
refused {U} bound s asked e r is answer =
    subst (λ (a : Asked). Call bound s a r s) (sym is)
    (subst (λ (x : Result U Refusal). Call bound s (Err (told e)) x s) (sym answer) (refl, refl))

-- all checks have passed
pub examined : {U : Type 0} (bound : Question → ℕ) (s n z : State) (asked : Asked) (r : Result U Refusal) → asked ≡ Ok n → Call bound s (Ok n) r z → Call bound s asked r z
examined bound s n z asked r is call = subst (λ (a : Asked). Call bound s a r z) (sym is) call
