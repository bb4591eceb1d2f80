-- The demand of a task up to a time t. Times are picoseconds. Assumes nothing.
use Rattle.std.specs.Prelude.{ℕ, ◌+◌, ◌-◌, ◌*◌, ◌/◌, min, Bool, cond, List, [], ◌∷◌, length, get_or, vec_items, Option, ◌==◌, slice_index_or}
use Rattle.terms.specs.Cores.{number_of}
use Rattle.terms.specs.Sums.{sum_where}
use Rattle.terms.specs.declared.cores.Core.{Core}
use Rattle.terms.specs.Units.{amount, Requests}
use Rattle.arbiter.specs.declared.question.Question.{Question}
use Rattle.tables.specs.Ranges.{no_task, no_partition, execution_on, requests_on}
use Rattle.tables.specs.declared.held.Tables.{Tables}
use Rattle.tables.specs.declared.model.Link.{Link}
use Rattle.tables.specs.declared.model.Partition.{Partition}
use Rattle.tables.specs.declared.model.Task.{Task}
use Rattle.analysis.specs.Placed.{core_at, is_core, sharing_of}
use Rattle.analysis.specs.declared.placed.Placed.{Placed}
use Rattle.analysis.specs.declared.placement.Placement.{Placement}

-- t divided by the period, rounded up
abbrev pub jobs : ℕ → ℕ → ℕ
jobs t period = (t + (period - 1)) / period

-- how many jobs of a task of the same partition count up to t
abbrev pub own_jobs : Task → ℕ → ℕ
own_jobs x t = jobs t x.period.0

-- how many jobs of a task on another core count up to t
abbrev pub other_jobs : Task → ℕ → ℕ
other_jobs x t = jobs t x.period.0

-- what a plan says: the tables, and the core of each partition, if it has one
pub record State : Type 0 where
  pub cores : ℕ
  pub partitions : List Partition
  pub tasks : List Task
  pub links : List Link
  pub placement : List (Option Core)

abbrev pub state : Tables → Placement → State
state tables placement = record {
  cores = tables.cores;
  partitions = vec_items tables.partitions;
  tasks = vec_items tables.tasks;
  links = vec_items tables.links;
  placement = placement.cores;
}

-- the same of tables and a placement that are examined together
abbrev pub state_of_placed : Placed → State
state_of_placed p = state p.tables.now p.placement.now

module _ (s : State) where
  abbrev pub task : ℕ → Task
  task k = slice_index_or s.tasks k no_task

  -- the core of a task: that of its partition
  abbrev pub place : ℕ → Option Core
  place k = core_at s.placement (task k).partition

  -- whether task k is placed on core q
  abbrev pub on : ℕ → ℕ → Bool
  on q k = is_core (place k) q

  -- whether task k is of the partition of task i
  abbrev pub beside : ℕ → ℕ → Bool
  beside i k = (task k).partition == (task i).partition

  -- the sum of jobs × weight over the higher-priority set of task i: the tasks of its partition with smaller numbers
  abbrev pub ahead : ℕ → (Task → ℕ) → ℕ → ℕ
  ahead i weight t = sum_where i (beside i) (λ k. own_jobs (task k) t * weight (task k))

  -- the requests of task i on core p up to t, with those of the higher-priority set
  abbrev pub own : ℕ → ℕ → ℕ → ℕ
  own i p t = requests_on (task i) p + ahead i (λ x. requests_on x p) t

  -- the requests of all tasks on core q up to t
  abbrev pub busy : ℕ → ℕ → ℕ
  busy q t = sum_where (length s.tasks) (on q) (λ k. other_jobs (task k) t * requests_on (task k) q)

  -- what core q asks for while a task on core p waits; nothing is placed on a core that the computer lacks
  abbrev pub others : ℕ → ℕ → ℕ → ℕ
  others p q t = cond (q == p) 0 (busy q t)

  abbrev counted : ℕ → Requests
  counted n = amount n

  -- what the arbiter is asked for task i on core p
  abbrev pub question : ℕ → Core → ℕ → Question
  question i p t = record {
    core = p;
    t = amount t;
    own = counted (own i (number_of p) t);
    others =
        counted (others (number_of p) 0 t) ∷ counted (others (number_of p) 1 t)
        ∷ counted (others (number_of p) 2 t) ∷ counted (others (number_of p) 3 t) ∷ [];
    sharing = sharing_of s.placement s.links;
  }

  -- the demand of task i on core p: its execution time, that of the higher-priority set, and the wait for the memory
  abbrev pub demand : (Question → ℕ) → ℕ → Core → ℕ → ℕ
  demand bound i p t =
      execution_on (task i) (number_of p) + ahead i (λ x. execution_on x (number_of p)) t + bound (question i p t)

  -- the limit of task i: the least of its deadline, its partition's period and its own period
  abbrev pub limit : ℕ → ℕ
  limit i =
      min (task i).deadline.0 (min (get_or s.partitions (task i).partition no_partition).period.0 (task i).period.0)
