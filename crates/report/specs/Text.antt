-- The text that the programs write, as bytes, and what writing it into a buffer means. Assumes nothing.
use Rattle.std.specs.Prelude.{◌≡◌, ℕ, ◌+◌, ◌<◌, ◌≤◌, List, [], ◌∷◌, ◌++◌, length, take, drop, Ok, Err, codes, decimal, Result}
use Rattle.std.specs.Str.Parse.{IsNumeral, digits_value}
use Rattle.terms.specs.Refusals.{told}
use Rattle.terms.specs.Units.{Picos}
use Rattle.terms.specs.declared.refusal.Refusal.{Refusal}

-- a line of two numbers, with a text before each
abbrev pub two_numbers : List ℕ → ℕ → List ℕ → ℕ → List ℕ
two_numbers before n between m = before ++ decimal n ++ between ++ decimal m ++ codes "\n"

-- the line of entry k, whose time is t: the number, a blank, the time
abbrev pub line : ℕ → ℕ → List ℕ
line k t = decimal k ++ codes " " ++ decimal t ++ codes "\n"

-- the lines of some times, the first of which has the number k
abbrev pub lines : ℕ → List Picos → List ℕ
lines k [] = []
lines k (t ∷ ts) = line k t.0 ++ lines (k + 1) ts

-- the lines of all the times, numbered from 0
abbrev pub listing : List Picos → List ℕ
listing ts = lines 0 ts

-- the line of a refusal with this number that tells this
abbrev pub refusal_text : ℕ × ℕ → List ℕ
refusal_text t = codes "refused " ++ decimal t.0 ++ codes " at " ++ decimal t.1 ++ codes "\n"

-- the line of a refusal: its number, and what it tells
abbrev pub refused_line : Refusal → List ℕ
refused_line e = refusal_text (told e)

-- a buffer before and after a text was put into its front, where it has room: n bytes are the text, and the rest is as it was
pub record Put (text old : List ℕ) (n : ℕ) (new : List ℕ) : Type 0 where
  pub long : n ≡ length text
  pub after : new ≡ text ++ drop (length text) old

-- what writing a text into a buffer answers, and what it leaves there: a buffer that is too short is refused, with the length that is needed, and stays as it was
abbrev pub Written : List ℕ → List ℕ → Result ℕ Refusal → List ℕ → Type 0
Written text old (Ok n) new = (length text ≤ length old) × Put text old n new
Written text old (Err e) new = (told e ≡ (17, length text)) × (length old < length text) × (new ≡ old)

-- the bytes that were written are decimal digits, and read back they give n
abbrev pub ReadsBack : ℕ → Result ℕ Refusal → List ℕ → Type 0
ReadsBack n (Ok r) new = IsNumeral 10 (take r new) × (digits_value 10 (take r new) ≡ n)
ReadsBack n (Err e) new = Unit {0}
