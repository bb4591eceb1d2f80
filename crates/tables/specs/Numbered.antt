-- The numbers of a task that can be changed, one after the other. Assumes nothing.
use Rattle.std.specs.Prelude.{ℕ, List, ◌∷◌, ◌++◌, map}
use Rattle.terms.specs.Units.{Picos, Requests}
use Rattle.tables.specs.declared.numbers.Numbers.{Numbers}

-- a period, a deadline, four execution times and four counts of requests
abbrev pub in_order : Numbers → List ℕ
in_order x = x.period.0 ∷ x.deadline.0 ∷ map (λ (t : Picos). t.0) x.execution ++ map (λ (h : Requests). h.0) x.requests
