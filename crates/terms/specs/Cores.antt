-- The cores and their numbers. Assumes nothing.
use Rattle.std.specs.Prelude.{◌≡◌, ℕ, zero, suc, Some, None, Option, Result, MatchResult}
use Rattle.terms.specs.declared.cores.Core.{Core}
use Rattle.terms.specs.declared.cores.Core.TheVariants.{Zero, One, Two, Three}
use Rattle.terms.specs.declared.refusal.Refusal.{Refusal}
use Rattle.terms.specs.declared.refusal.Refusal.TheVariants.{NoCore}

-- the number of a core
abbrev pub number_of : Core → ℕ
number_of Zero = 0
number_of One = 1
number_of Two = 2
number_of Three = 3

-- the core of a number, if there is one
abbrev pub numbered : ℕ → Option Core
numbered zero = Some Zero
numbered (suc zero) = Some One
numbered (suc (suc zero)) = Some Two
numbered (suc (suc (suc zero))) = Some Three
numbered (suc (suc (suc (suc n)))) = None

-- the core of a number, or that there is none
abbrev pub Numbered : ℕ → Result Core Refusal → Type 0
Numbered n r = MatchResult r (λ core. numbered n ≡ Some core) (λ e. (numbered n ≡ None) × (e ≡ NoCore n))
