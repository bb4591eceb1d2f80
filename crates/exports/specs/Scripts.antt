-- A script that is read from its front on. Assumes nothing.
use Rattle.std.specs.Prelude.{◌≡◌, ℕ, ◌+◌, ◌*◌, ◌^◌, ◌<◌, ◌≤◌, List, ◌∷◌, ◌++◌, length, take, drop, Some, None, Option, slice_index}

-- the next n bytes are taken from a script, if it has so many; else it stays as it is
abbrev pub Takes : ℕ → List ℕ → Option (List ℕ) → List ℕ → Type 0
Takes n script (Some front) rest = (length front ≡ n) × (script ≡ front ++ rest)
Takes n script None rest = (length script < n) × (rest ≡ script)

-- the next byte is taken from a script, if it has one
abbrev pub Gives : List ℕ → Option ℕ → List ℕ → Type 0
Gives script (Some byte) rest = script ≡ byte ∷ rest
Gives script None rest = (length script ≡ 0) × (rest ≡ script)

-- the number that eight bytes say, the most significant first
abbrev pub big_endian : List ℕ → ℕ
big_endian b =
    slice_index b 0 * 2 ^ 56 + slice_index b 1 * 2 ^ 48 + slice_index b 2 * 2 ^ 40 + slice_index b 3 * 2 ^ 32
    + slice_index b 4 * 2 ^ 24 + slice_index b 5 * 2 ^ 16 + slice_index b 6 * 2 ^ 8 + slice_index b 7

-- the next number is taken from a script, in eight bytes, if it has so many
abbrev pub Says : List ℕ → Option ℕ → List ℕ → Type 0
Says script (Some n) rest = (n ≡ big_endian (take 8 script)) × (rest ≡ drop 8 script) × (8 ≤ length script)
Says script None rest = (length script < 8) × (rest ≡ script)
