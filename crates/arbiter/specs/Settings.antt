-- Which setting is refused, and what is made of settings in range. Assumes nothing.
use Rattle.std.specs.Prelude.{◌≡◌, ℕ, ◌≤◌, Bool, List, [], ◌∷◌, Some, None, Ok, Err, Option, Result}
use Rattle.terms.specs.Checks.{within}
use Rattle.terms.specs.Units.{DelayPerRequest}
use Rattle.terms.specs.declared.refusal.Refusal.{Refusal}
use Rattle.terms.specs.Refusals.{told}

abbrev pub Within : ℕ → ℕ → ℕ → Type 0
Within least most x = (least ≤ x) × (x ≤ most)

abbrev pub Outside : ℕ → ℕ → ℕ → ℕ → Refusal → Type 0
Outside position least most x e = (told e ≡ (8, position)) × (Within least most x → ⊥)

-- with each setting in its range a value is made, of which P holds; else the first that is not is told
abbrev pub Made : {A : Type 0} → Option ℕ → Result A Refusal → (A → Type 0) → Type 0
Made None (Ok a) P = P a
Made None (Err e) P = ⊥
Made (Some k) (Ok a) P = ⊥
Made (Some k) (Err e) P = told e ≡ (8, k)

-- the tests of the settings of the banks, in their order
abbrev pub banks_in_range : ℕ → DelayPerRequest → DelayPerRequest → List Bool
banks_in_range cores l conflict = within 1 4 cores ∷ within 0 100000 l.0 ∷ within 0 100000 conflict.0 ∷ []
