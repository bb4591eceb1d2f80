-- What is in range in the tables of a computer. Times are picoseconds. Assumes nothing.
use Rattle.std.specs.Prelude.{ℕ, ◌^◌, ◌<◌, ◌≤◌, List, [], length, get_or, slice_index_or}
use Rattle.terms.specs.Units.{amount, Picos, Requests}
use Rattle.tables.specs.declared.model.Partition.{Partition}
use Rattle.tables.specs.declared.model.Task.{Task}

-- what is read past the end of a list
abbrev pub no_time : Picos
no_time = amount 0

abbrev pub no_requests : Requests
no_requests = amount 0

abbrev pub no_partition : Partition
no_partition = record { period = no_time }

abbrev pub no_task : Task
no_task = record {
  partition = 0;
  period = no_time;
  deadline = no_time;
  execution = [];
  requests = [];
}

-- the execution time and the requests of a job on core q
abbrev pub execution_on : Task → ℕ → ℕ
execution_on x q = (get_or x.execution q no_time).0

abbrev pub requests_on : Task → ℕ → ℕ
requests_on x q = (get_or x.requests q no_requests).0

-- a period of a partition or a task
abbrev pub Period : ℕ → Type 0
Period n = (10 ^ 9 ≤ n) × (n ≤ 10 ^ 13)

-- the tasks' partitions are among the first n
abbrev pub EachMember : ℕ → List Task → Type 0
EachMember n tasks = (k : ℕ) → k < length tasks → (get_or tasks k no_task).partition < n

-- the tasks' periods and deadlines
abbrev pub EachDue : List Task → Type 0
EachDue tasks =
    (k : ℕ) → k < length tasks → Period (get_or tasks k no_task).period.0 × ((1 ≤ (get_or tasks k no_task).deadline.0) × ((get_or tasks k no_task).deadline.0 ≤ 10 ^ 13))

-- the most that one job of a task takes on any core
abbrev pub EachJob : List Task → Type 0
EachJob tasks =
    (k : ℕ) → k < length tasks → (q : ℕ) → (execution_on (slice_index_or tasks k no_task) q ≤ 10 ^ 13) × (requests_on (slice_index_or tasks k no_task) q ≤ 10 ^ 6)

abbrev pub EachTimed : List Partition → Type 0
EachTimed partitions = (k : ℕ) → k < length partitions → Period (get_or partitions k no_partition).period.0

-- the tasks of a computer with n partitions
pub record Sound (n : ℕ) (tasks : List Task) : Type 0 where
  pub few : length tasks ≤ 64
  pub member : EachMember n tasks
  pub due : EachDue tasks
  pub job : EachJob tasks
