-- Checks in their order. Assumes nothing.
use Rattle.std.specs.Prelude.{ℕ, ◌+◌, Bool, true, false, ◌&&◌, List, [], ◌∷◌, Some, None, Option, nat_le}

-- whether x lies between least and most
abbrev pub within : ℕ → ℕ → ℕ → Bool
within least most x = nat_le least x && nat_le x most

-- the place of the first test that fails, counted on from k
abbrev pub first_out : ℕ → List Bool → Option ℕ
first_out k [] = None
first_out k (true ∷ rest) = first_out (k + 1) rest
first_out k (false ∷ rest) = Some k
