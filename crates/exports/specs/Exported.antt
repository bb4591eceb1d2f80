-- What the exported calls answer. Assumes nothing.
use Rattle.std.specs.Prelude.{◌≡◌, ℕ, ◌⊎◌, List, Result}
use Rattle.terms.specs.declared.refusal.Refusal.{Refusal}
use Rattle.tables.specs.Contents.{decode}
use Rattle.report.specs.Checked.{Checked}
use Rattle.exports.specs.Numbers.{in_numbers, reading}
use Rattle.exports.specs.declared.answer.Answer.{Answer}

-- an answer stands for want of memory
abbrev pub Wanting : Answer → Type 0
Wanting a = (a.number ≡ 255) × (a.tells ≡ 0)

-- an answer tells a file's first fault, or that it has none
abbrev pub Reads : List ℕ → Answer → Type 0
Reads file a = (a.number, a.tells) ≡ reading (decode file)

-- an answer, and a buffer before and after the text that checker prints of a file and of entries was written into it
pub record Checks (file entries old : List ℕ) (a : Answer) (new : List ℕ) : Type 0 where
  pub result : Result ℕ Refusal
  pub numbers : (a.number, a.tells) ≡ in_numbers result
  pub checked : Checked file entries old result new

-- the same, or want of memory
abbrev pub CheckAnswer : List ℕ → List ℕ → List ℕ → Answer → List ℕ → Type 0
CheckAnswer file entries old a new = (Wanting a × (new ≡ old)) ⊎ Checks file entries old a new

-- the same of reading
abbrev pub ReadAnswer : List ℕ → Answer → Type 0
ReadAnswer file a = Wanting a ⊎ Reads file a
