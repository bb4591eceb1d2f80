-- The lines that the program prints, as bytes. Assumes nothing.
use Rattle.std.specs.Prelude.{ℕ, List, ◌++◌, Ok, Err, codes, decimal, Result}
use Rattle.terms.specs.declared.refusal.Refusal.{Refusal}
use Rattle.report.specs.Text.{refused_line}

-- the line of a change that stands in line l, by its verdict
abbrev pub outcome_text : ℕ → Result (Unit {0}) Refusal → List ℕ
outcome_text l (Ok u) = decimal l ++ codes " accepted\n"
outcome_text l (Err e) = decimal l ++ codes " " ++ refused_line e
