-- The first test that fails is the library's first place. Assumes nothing.
use Rattle.std.proofs.Common.{◌≡◌, ℕ, ◌+◌, Bool, true, false, not, List, [], ◌∷◌, map, Option, Some, cond, refl, sym, ◌∙◌}
use Rattle.std.proofs.lemmas.Iterator.Adapters.{position_from-zero}
use Rattle.std.specs.List.{position, position_from}
use Rattle.terms.specs.Checks.{first_out}

one_on : (x : Bool) (k : ℕ) (rest : List Bool) (r : Option ℕ) → first_out (k + 1) rest ≡ r → first_out k (x ∷ rest) ≡ cond (not x) (Some k) r
one_on true k rest r e = e
one_on false k rest r e = refl

-- counted on from k
tested_from : {X : Type 0} → (f : X → Bool) (k : ℕ) (xs : List X) → first_out k (map f xs) ≡ position_from (λ x. not (f x)) k xs
tested_from f k [] = refl
tested_from f k (x ∷ xs) = one_on (f x) k (map f xs) _ (tested_from f (k + 1) xs)

failed_from : (k : ℕ) (tests : List Bool) → first_out k tests ≡ position_from not k tests
failed_from k [] = refl
failed_from k (x ∷ xs) = one_on x k xs _ (failed_from (k + 1) xs)

-- the place of the first that fails a test
pub first_tested : {X : Type 0} → (f : X → Bool) (xs : List X) → position (λ x. not (f x)) xs ≡ first_out 0 (map f xs)
first_tested f xs = position_from-zero (λ x. not (f x)) xs ∙ sym (tested_from f 0 xs)

-- the place of the first test that failed
pub first_failed : (tests : List Bool) → position not tests ≡ first_out 0 tests
first_failed tests = position_from-zero not tests ∙ sym (failed_from 0 tests)
