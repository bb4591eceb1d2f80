-- What a trial answers: what placing a partition, and then asking for the times, would answer. Assumes nothing.
use Rattle.std.specs.Prelude.{◌≡◌, ℕ, cond, List, length, is_some, Some, None, Ok, Err, Option, Result, nat_lt}
use Rattle.terms.specs.Units.{Picos}
use Rattle.terms.specs.declared.refusal.Refusal.{Refusal}
use Rattle.arbiter.specs.declared.question.Question.{Question}
use Rattle.tables.specs.Layout.{Tabled}
use Rattle.tables.specs.Tabled.{tabled}
use Rattle.tables.specs.declared.held.spare.Spare.{Spare}
use Rattle.analysis.specs.Demand.{State}
use Rattle.analysis.specs.Placed.{core_at}
use Rattle.analysis.specs.Times.{Times}
use Rattle.plan.specs.Answers.{RefusedWith, SameAnswer}
use Rattle.plan.specs.Born.{tables_in}
use Rattle.plan.specs.Calls.{Asked, Call, place_asks}

-- what place was refused with by a check; else what comes after
abbrev pub after_checks : Asked → Option (ℕ × ℕ) → Option (ℕ × ℕ)
after_checks (Err t) later = Some t
after_checks (Ok n) later = later

-- the first check that a trial fails: those of place; then the partition is not placed yet; then the buffer has an entry
-- for each task
abbrev pub trial_refusal : State → ℕ → ℕ → ℕ → Option (ℕ × ℕ)
trial_refusal s partition core room =
    after_checks (place_asks s partition core)
    (cond (is_some (core_at s.placement partition)) (Some (16, partition))
    (cond (nat_lt room (length s.tasks)) (Some (17, length s.tasks)) None))

-- times asked for after a call that answered `first` and left the state m; where that was refused, the answer is its
abbrev pub ThenTimes : (Question → ℕ) → Result (Unit {0}) Refusal → State → List Picos → Result (Unit {0}) Refusal → List Picos → Type 0
ThenTimes bound (Ok u) m old r new = Times bound m old r new
ThenTimes bound (Err e) m old r new = SameAnswer {U = Unit {0}} (Err e) r × (new ≡ old)

-- place answers `first` and leaves the state m, and then times answers r and fills the buffer
pub record PlaceThenTimes (bound : Question → ℕ) (s : State) (partition core : ℕ) (old : List Picos) (r : Result (Unit {0}) Refusal) (new : List Picos) : Type 0 where
  pub first : Result (Unit {0}) Refusal
  pub m : State
  pub place : Call bound s (place_asks s partition core) first m
  pub times : ThenTimes bound first m old r new

-- refused by the first check that fails, with the buffer as it was; else what place followed by times would give
abbrev pub Tried : (Question → ℕ) → State → ℕ → ℕ → Option (ℕ × ℕ) → List Picos → Result (Unit {0}) Refusal → List Picos → Type 0
Tried bound s partition core (Some t) old r new = RefusedWith r t × (new ≡ old)
Tried bound s partition core None old r new = PlaceThenTimes bound s partition core old r new

-- a trial answers r, leaves the state z and fills the buffer
pub record Trial (bound : Question → ℕ) (s : State) (partition core : ℕ) (old : List Picos) (r : Result (Unit {0}) Refusal) (z : State) (new : List Picos) : Type 0 where
  -- on every way out the plan stands as before
  pub stands : z ≡ s
  pub answer : Tried bound s partition core (trial_refusal s partition core (length old)) old r new

-- what spare tables say
abbrev pub said_by : Spare → Tabled
said_by c = tabled c.tables

-- the spare tables before and after a trial: as they were where a check refused it, else those of the plan
abbrev pub Copied : Option (ℕ × ℕ) → State → Tabled → Tabled → Type 0
Copied (Some t) s before after = after ≡ before
Copied None s before after = after ≡ tables_in s
