-- The pieces of a line put together. Assumes nothing.
use Rattle.std.proofs.Common.{◌≡◌, ℕ, ◌++◌, codes, decimal, append_assoc}
use Rattle.terms.specs.Refusals.{refused}
use Rattle.terms.specs.declared.refusal.Refusal.{Refusal}
use Rattle.report.specs.Text.{refused_line}

-- the pieces of the line of a change that is refused
pub outcome_pieces : (l : ℕ) (e : Refusal) → decimal l ++ (codes " " ++ (refused e ++ codes "\n")) ≡ decimal l ++ codes " " ++ refused_line e
outcome_pieces l e = simp append_assoc
