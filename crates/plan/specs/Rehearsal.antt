-- What holds after any history of the four calls. Assumes nothing.
use Rattle.std.specs.Prelude.{◌≡◌, ℕ, ◌<◌, ◌≤◌, List, [], length, get_or, take, Some, None, Ok, Err, Option, Result, slice_index_or}
use Rattle.terms.specs.Refusals.{told}
use Rattle.terms.specs.declared.cores.Core.{Core}
use Rattle.terms.specs.Units.{Picos}
use Rattle.terms.specs.declared.refusal.Refusal.{Refusal}
use Rattle.arbiter.specs.declared.question.Question.{Question}
use Rattle.tables.specs.Contents.{Book, decode}
use Rattle.tables.specs.Ranges.{no_task, no_time}
use Rattle.tables.specs.Retimed.{retimed}
use Rattle.analysis.specs.Demand.{State, limit, place}
use Rattle.analysis.specs.Easing.{Eased}
use Rattle.analysis.specs.Times.{IsTime, LateAt, FirstLate, Shows, demand_on}
use Rattle.plan.specs.Born.{state_of}
use Rattle.plan.specs.Calls.{Call}
use Rattle.plan.specs.History.{asks, History}
use Rattle.plan.specs.declared.change.Change.{Change}
use Rattle.plan.specs.declared.change.Change.TheVariants.{Adopt, Place, Withdraw, Retime}
use Rattle.plan.specs.declared.outcome.Outcome.{Outcome}
use Rattle.plan.specs.declared.plan.Plan.{Plan}

-- a call was refused as late, telling task k
abbrev pub RefusedLate : Result (Unit {0}) Refusal → ℕ → Type 0
RefusedLate (Ok u) k = ⊥
RefusedLate (Err e) k = told e ≡ (15, k)

-- In the state n some placed task has no fixed point of its demand within its limit.
abbrev pub SomeLate : (Question → ℕ) → State → Type 0
SomeLate bound n = (k : ℕ) × (k < length n.tasks) × LateAt bound n k

-- a call that asks for the state n is refused as late exactly when some placed task would be late, and names the first
pub record LateExactly (bound : Question → ℕ) (n : State) (r : Result (Unit {0}) Refusal) : Type 0 where
  pub when_late : SomeLate bound n → (k : ℕ) × RefusedLate r k
  pub names_first : (k : ℕ) → RefusedLate r k → FirstLate bound n (Some k)

-- v is the least fixed point within the limit, for a task on a core; 0 for one that is on none
abbrev pub Due : (Core → ℕ → ℕ) → ℕ → Option Core → ℕ → Type 0
Due f most None v = v ≡ 0
Due f most (Some p) v = IsTime (f p) most v

-- every placed task has a fixed point of its demand within its limit, and the least is what is told of it
abbrev pub InTimeTold : (Question → ℕ) → State → List Picos → Type 0
InTimeTold bound s times =
    (k : ℕ) → k < length s.tasks → Due (demand_on bound s k) (limit s k) (place s k) (get_or times k no_time).0

-- a retime that raises no execution time and no count of requests, and shortens neither period nor deadline
abbrev pub Easing : State → Change → Type 0
Easing s (Adopt entries) = ⊥
Easing s (Place partition core) = ⊥
Easing s (Withdraw partition) = ⊥
Easing s (Retime task numbers) = Eased (slice_index_or s.tasks task no_task) (retimed (slice_index_or s.tasks task no_task) numbers)

-- two answers with the same number that tell the same
abbrev pub SameAnswer : Result (Unit {0}) Refusal → Result (Unit {0}) Refusal → Type 0
SameAnswer (Ok u) (Ok v) = Unit {0}
SameAnswer (Ok u) (Err e) = ⊥
SameAnswer (Err e) (Ok v) = ⊥
SameAnswer (Err e) (Err d) = told e ≡ told d

-- what one call of a history promises: a change c, after those before it, whose outcome is o
pub record After (bound : Question → ℕ) (file : List ℕ) (earlier : List Change) (c : Change) (o : Outcome) : Type 0 where
  pub before : State
  pub after : State
  -- only the earlier changes have altered the plan since its birth from the file; then the call is made
  pub history : History bound file earlier before
  pub call : Call bound before (asks before c) o.verdict after
  -- every placed task is in time after it, and its time is told
  pub in_time : InTimeTold bound after o.times
  -- where no check refused the call, it was refused as late exactly when some placed task would be
  pub late : (n : State) → asks before c ≡ Ok n → LateExactly bound n o.verdict
  -- easing a task is never refused as late
  pub easing : Easing before c → (k : ℕ) → RefusedLate o.verdict k → ⊥
  -- the file, the bound and the changes alone determine the states and the answer
  pub one_before : (s : State) → History bound file earlier s → s ≡ before
  pub one_answer : (r : Result (Unit {0}) Refusal) (z : State) → Call bound before (asks before c) r z → SameAnswer r o.verdict × (z ≡ after)

-- one call: what it answers, and the times after it
pub record Played (bound : Question → ℕ) (s : State) (c : Change) (o : Outcome) (z : State) : Type 0 where
  pub call : Call bound s (asks s c) o.verdict z
  pub filled : (k : ℕ) → k < length z.tasks → Shows bound z k (slice_index_or o.times k no_time)

-- c is the change at k
abbrev pub At : List Change → ℕ → Change → Type 0
At changes k c = (k < length changes) × (c ≡ slice_index_or changes k c)

-- what is read past the end of a log
abbrev pub no_outcome : Outcome
no_outcome = record { verdict = Ok tt; times = [] }

-- a whole rehearsal, after which the plan says z
pub record Rehearsed (bound : Question → ℕ) (file : List ℕ) (changes : List Change) (old : List Outcome) (z : State) (new : List Outcome) : Type 0 where
  pub room : length changes ≤ length old
  pub long : length new ≡ length old
  pub each : (k : ℕ) (c : Change) → At changes k c → After bound file (take k changes) c (slice_index_or new k no_outcome)
  pub rest : (k : ℕ) → length changes ≤ k → slice_index_or new k no_outcome ≡ slice_index_or old k no_outcome
  pub final : History bound file changes z

-- a rehearsal that is refused: the file has a fault, or the log is too short
abbrev pub Unplayed : Result Book (ℕ × ℕ) → ℕ → ℕ → Refusal → Type 0
Unplayed (Err t) needed room e = told e ≡ t
Unplayed (Ok book) needed room e = (told e ≡ (17, needed)) × (room < needed)

abbrev pub Rehearsal : (Question → ℕ) → List ℕ → List Change → List Outcome → Result State Refusal → List Outcome → Type 0
Rehearsal bound file changes old (Ok z) new = Rehearsed bound file changes old z new
Rehearsal bound file changes old (Err e) new = Unplayed (decode file) (length changes) (length old) e × (new ≡ old)

-- what a plan says, if there is one
abbrev pub states : Result Plan Refusal → Result State Refusal
states (Ok p) = Ok (state_of p)
states (Err e) = Err e
