-- What a call answers: accepted, or refused with a number and what it tells. Assumes nothing.
use Rattle.std.specs.Prelude.{◌≡◌, ℕ, Ok, Err, Result}
use Rattle.terms.specs.Refusals.{told}
use Rattle.terms.specs.declared.refusal.Refusal.{Refusal}

-- refused with this number, telling this
abbrev pub RefusedWith : {U : Type 0} → Result U Refusal → ℕ × ℕ → Type 0
RefusedWith (Ok u) t = ⊥
RefusedWith (Err e) t = told e ≡ t

-- two answers: both accepted, or refused with the same number and telling the same
abbrev pub SameAnswer : {U V : Type 0} → Result U Refusal → Result V Refusal → Type 0
SameAnswer (Ok u) (Ok v) = Unit {0}
SameAnswer (Ok u) (Err e) = ⊥
SameAnswer (Err e) (Ok v) = ⊥
SameAnswer (Err e) (Err d) = told e ≡ told d
