-- How a reckoned bound becomes an answer. Assumes nothing.
use Rattle.std.specs.Prelude.{◌≡◌, ℕ, min, cond, ◌||◌, nat_le}
use Rattle.terms.specs.Cores.{number_of}
use Rattle.terms.specs.Units.{Picos}
use Rattle.arbiter.specs.Questions.{beyond, ceiling}
use Rattle.arbiter.specs.declared.question.Question.{Question}

-- of n cores: the ceiling for a core that is not below n or a question past what is reckoned with; else v, cut to the ceiling
abbrev pub settled : ℕ → Question → ℕ → ℕ
settled n x v = cond (nat_le n (number_of x.core) || beyond x) ceiling (min v ceiling)

-- a wait is v, whatever the call gives
abbrev pub Waits : (Picos → Type 0) → ℕ → Type 0
Waits gives v = (t : Picos) → gives t → t.0 ≡ v
