-- The time of a task: the least fixed point of its demand within its limit. Assumes nothing.
use Rattle.std.specs.Prelude.{◌≡◌, ℕ, ◌<◌, ◌≤◌, List, length, Some, None, Ok, Err, Option, Result, slice_index_or}
use Rattle.std.specs.Option.{unwrap_or}
use Rattle.terms.specs.Refusals.{told}
use Rattle.terms.specs.declared.cores.Core.{Core}
use Rattle.terms.specs.Units.{Picos}
use Rattle.terms.specs.declared.refusal.Refusal.{Refusal}
use Rattle.arbiter.specs.declared.question.Question.{Question}
use Rattle.tables.specs.Ranges.{no_time}
use Rattle.analysis.specs.Demand.{State, demand, limit, place}

abbrev pub FixedWithin : (ℕ → ℕ) → ℕ → ℕ → Type 0
FixedWithin f most t = (f t ≡ t) × (t ≤ most)

-- t is the least fixed point within the limit
abbrev pub IsTime : (ℕ → ℕ) → ℕ → ℕ → Type 0
IsTime f most t = FixedWithin f most t × ((s : ℕ) → FixedWithin f most s → t ≤ s)

-- there is no fixed point within the limit
abbrev pub Late : (ℕ → ℕ) → ℕ → Type 0
Late f most = (s : ℕ) → FixedWithin f most s → ⊥

-- r is the time, or none where there is no fixed point within the limit
abbrev pub Tells : (ℕ → ℕ) → ℕ → Option Picos → Type 0
Tells f most None = Late f most
Tells f most (Some t) = IsTime f most t.0

-- the same of a task on a core, if it is on one: f takes the core
abbrev pub TellsPlaced : (Core → ℕ → ℕ) → ℕ → Option Core → Option Picos → Type 0
TellsPlaced f most None r = r ≡ None
TellsPlaced f most (Some p) r = Tells (f p) most r

abbrev pub LatePlaced : (Core → ℕ → ℕ) → ℕ → Option Core → Type 0
LatePlaced f most None = ⊥
LatePlaced f most (Some p) = Late (f p) most

abbrev pub InTimePlaced : (Core → ℕ → ℕ) → ℕ → Option Core → Type 0
InTimePlaced f most None = Unit {0}
InTimePlaced f most (Some p) = (t : ℕ) × IsTime (f p) most t

module _ (bound : Question → ℕ) (s : State) (i : ℕ) where
  -- the demand of task i, on a core p
  abbrev pub demand_on : Core → ℕ → ℕ
  demand_on p t = demand s bound i p t

  -- r is the time of task i, if it has one
  abbrev pub TimeIs : Option Picos → Type 0
  TimeIs r = TellsPlaced demand_on (limit s i) (place s i) r

  -- task i is placed, and has no time
  abbrev pub LateAt : Type 0
  LateAt = LatePlaced demand_on (limit s i) (place s i)

  -- task i is not placed, or has a time
  abbrev pub InTime : Type 0
  InTime = InTimePlaced demand_on (limit s i) (place s i)

module _ (bound : Question → ℕ) (s : State) where
  -- every placed task below n has a time
  abbrev pub AllInTime : ℕ → Type 0
  AllInTime n = (i : ℕ) → i < n → InTime bound s i

  -- r is the late task with the smallest number
  abbrev pub FirstLate : Option ℕ → Type 0
  FirstLate None = AllInTime (length s.tasks)
  FirstLate (Some k) = (k < length s.tasks) × LateAt bound s k × AllInTime k

  -- v is what is shown of task k: its time, or 0
  abbrev pub Shows : ℕ → Picos → Type 0
  Shows k v = (r : Option Picos) × TimeIs bound s k r × (v ≡ unwrap_or r no_time)

-- a buffer, before and after its first n entries were filled: each shows what it is to show, and the rest is as it was
pub record Filled (n : ℕ) (Entry : ℕ → Picos → Type 0) (old new : List Picos) : Type 0 where
  pub long : length new ≡ length old
  pub shows : (k : ℕ) → k < n → Entry k (slice_index_or new k no_time)
  pub rest : (k : ℕ) → n ≤ k → slice_index_or new k no_time ≡ slice_index_or old k no_time

-- what filling the first n entries answers: a buffer that is too short is refused with 17 and the length needed
abbrev pub Fills : {U : Type 0} → ℕ → (ℕ → Picos → Type 0) → List Picos → Result U Refusal → List Picos → Type 0
Fills n Entry old (Ok u) new = (n ≤ length old) × Filled n Entry old new
Fills n Entry old (Err e) new = (told e ≡ (17, n)) × (length old < n) × (new ≡ old)

-- what asking for the times answers, and what it leaves in the buffer
abbrev pub Times : {U : Type 0} → (Question → ℕ) → State → List Picos → Result U Refusal → List Picos → Type 0
Times bound s old r new = Fills (length s.tasks) (Shows bound s) old r new
