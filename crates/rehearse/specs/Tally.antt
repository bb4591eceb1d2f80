-- What became of a change, as a test. Assumes nothing.
use Rattle.std.specs.Prelude.{ℕ, Bool, false, is_ok, Ok, Err, Result, ◌==◌}
use Rattle.terms.specs.Refusals.{told}
use Rattle.terms.specs.declared.refusal.Refusal.{Refusal}
use Rattle.plan.specs.declared.outcome.Outcome.{Outcome}

-- the change was accepted
abbrev pub is_accepted : Outcome → Bool
is_accepted o = is_ok o.verdict

-- the verdict is a refusal with this number
abbrev pub refuses : ℕ → Result (Unit {0}) Refusal → Bool
refuses n (Ok u) = false
refuses n (Err e) = (told e).0 == n

abbrev pub is_refused : ℕ → Outcome → Bool
is_refused n o = refuses n o.verdict
