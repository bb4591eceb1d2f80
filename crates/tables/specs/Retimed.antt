-- The numbers of a task that can be changed. Times are picoseconds. Assumes nothing.
use Rattle.std.specs.Prelude.{◌≡◌, ℕ, ◌^◌, ◌<◌, ◌≤◌, Bool, List, [], ◌∷◌, length, get_or, Some, None, Option, slice_index_or, slice_set}
use Rattle.terms.specs.Checks.{within}
use Rattle.tables.specs.Ranges.{no_time, no_requests, no_task}
use Rattle.tables.specs.declared.model.Task.{Task}
use Rattle.tables.specs.declared.numbers.Numbers.{Numbers}
use Rattle.tables.specs.declared.timing.Timing.{Timing}
use Rattle.tables.specs.Layout.{Tabled}

-- a task with other numbers
abbrev pub retimed : Task → Numbers → Task
retimed x n = record { partition = x.partition; period = n.period; deadline = n.deadline; execution = n.execution; requests = n.requests }

-- t has the numbers n
pub record Timed (n : Numbers) (t : Timing) : Type 0 where
  pub period : t.numbers.period ≡ n.period
  pub deadline : t.numbers.deadline ≡ n.deadline
  pub execution : t.numbers.execution ≡ n.execution
  pub requests : t.numbers.requests ≡ n.requests

-- a task with the numbers of a timing
abbrev pub timed : Task → Timing → Task
timed x t = retimed x t.numbers

-- t has the numbers of the task x
pub record Former (x : Task) (t : Timing) : Type 0 where
  pub period : t.numbers.period ≡ x.period
  pub deadline : t.numbers.deadline ≡ x.deadline
  pub execution : t.numbers.execution ≡ x.execution
  pub requests : t.numbers.requests ≡ x.requests

-- where there is such a task it has the numbers of t then, and its former ones are told; else nothing changes
abbrev pub Retimes : Tabled → ℕ → Timing → Option Timing → Tabled → Type 0
Retimes old i t (Some former) new =
    (i < length old.tasks) × Former (slice_index_or old.tasks i no_task) former
    × (new ≡ record { cores = old.cores; partitions = old.partitions; tasks = slice_set old.tasks i (timed (slice_index_or old.tasks i no_task) t); links = old.links })
Retimes old i t None new = (length old.tasks ≤ i) × (new ≡ old)

-- whether the execution time on core q is in range, and the count of requests
abbrev pub execution_in_range : Numbers → ℕ → Bool
execution_in_range n q = within 1 (10 ^ 13) (get_or n.execution q no_time).0

abbrev pub requests_in_range : Numbers → ℕ → Bool
requests_in_range n q = within 0 (10 ^ 6) (get_or n.requests q no_requests).0

-- whether each is in range, in their order: the period, the deadline, four execution times, four counts of requests
abbrev pub numbers_in_range : Numbers → List Bool
numbers_in_range n =
    within (10 ^ 9) (10 ^ 13) n.period.0 ∷ within 1 (10 ^ 13) n.deadline.0
    ∷ execution_in_range n 0 ∷ execution_in_range n 1 ∷ execution_in_range n 2 ∷ execution_in_range n 3
    ∷ requests_in_range n 0 ∷ requests_in_range n 1 ∷ requests_in_range n 2 ∷ requests_in_range n 3 ∷ []
