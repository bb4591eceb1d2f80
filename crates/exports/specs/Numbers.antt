-- Results as two numbers. Assumes nothing.
use Rattle.std.specs.Prelude.{ℕ, Ok, Err, Result}
use Rattle.terms.specs.Refusals.{told}
use Rattle.terms.specs.declared.refusal.Refusal.{Refusal}
use Rattle.tables.specs.Contents.{Book}

-- 0 and what was asked for, or the number of a refusal and what it tells
abbrev pub in_numbers : Result ℕ Refusal → ℕ × ℕ
in_numbers (Ok n) = (0, n)
in_numbers (Err e) = told e

-- what a file says, in numbers: 0 and 0 where it is accepted, else the number of its first fault and what that tells
abbrev pub reading : Result Book (ℕ × ℕ) → ℕ × ℕ
reading (Ok book) = (0, 0)
reading (Err t) = t
