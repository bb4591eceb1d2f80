-- The slack of tasks, and the least of them. A task without a time has the time 0. Assumes nothing.
use Rattle.std.specs.Prelude.{ℕ, ◌-◌, ◌<◌, ◌≤◌, Bool, true, List, Some, None, Option, nat_lt, slice_index_or}
use Rattle.tables.specs.Ranges.{no_time}
use Rattle.summary.specs.declared.slack.Limited.{Limited}

-- the limit of a task less its time
abbrev pub slack_of : Limited → ℕ
slack_of x = x.limit.0 - x.time.0

-- no time, and no limit
abbrev pub no_task : Limited
no_task = record { time = no_time; limit = no_time }

module _ (tasks : List Limited) where
  -- the slack of task k
  abbrev pub slack : ℕ → ℕ
  slack k = slack_of (slice_index_or tasks k no_task)

  -- whether task k has less slack than another, or there is no other
  abbrev pub tighter : ℕ → Option ℕ → Bool
  tighter k (Some i) = nat_lt (slack k) (slack i)
  tighter k None = true

  -- task k has a time
  abbrev pub Timed : ℕ → Type 0
  Timed k = 0 < (slice_index_or tasks k no_task).time.0

  -- task i has a time, no task below n has less slack, and none before i has as little
  pub record LeastAt (n i : ℕ) : Type 0 where
    pub below : i < n
    pub timed : Timed i
    pub least : (k : ℕ) → k < n → Timed k → slack i ≤ slack k
    pub first : (k : ℕ) → k < i → Timed k → slack i < slack k

  -- of the tasks below n that have a time, r is the first with the least slack; none where none has a time
  abbrev pub Least : ℕ → Option ℕ → Type 0
  Least n (Some i) = LeastAt n i
  Least n None = (k : ℕ) → k < n → Timed k → ⊥
