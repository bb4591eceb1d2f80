-- The number that a word says. Assumes nothing.
use Rattle.std.specs.Prelude.{◌≡◌, ℕ, ◌^◌, ◌<◌, ◌≤◌, ◌⊎◌, List, length, Some, None, Option, slice_index}
use Rattle.std.specs.Str.Parse.{IsNumeral, digits_value}

-- digits that say a number below 2^64 say n; no other word says one
abbrev pub Says : List ℕ → Option ℕ → Type 0
Says word (Some n) = IsNumeral 10 word × (n ≡ digits_value 10 word) × (n < 2 ^ 64)
Says word None = IsNumeral 10 word → 2 ^ 64 ≤ digits_value 10 word

abbrev pub Dash : List ℕ → Type 0
Dash word = (length word ≡ 1) × (slice_index word 0 ≡ 45)

-- a dash says 255, digits that say a number up to 255 that number; no other word says an entry
abbrev pub SaysEntry : List ℕ → Option ℕ → Type 0
SaysEntry word (Some n) = (Dash word × (n ≡ 255)) ⊎ (IsNumeral 10 word × (n ≡ digits_value 10 word))
SaysEntry word None = (Dash word → ⊥) × (IsNumeral 10 word → 255 < digits_value 10 word)
