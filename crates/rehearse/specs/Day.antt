-- What holds of the changes of a day, played under the pile of our station. Assumes nothing.
use Rattle.std.specs.Prelude.{◌≡◌, ℕ, List, length, replicate, None, Ok, Err, Result}
use Rattle.terms.specs.declared.refusal.Refusal.{Refusal}
use Rattle.arbiter.specs.Station.{OurPile}
use Rattle.arbiter.specs.declared.job_driven.JobDriven.{JobDriven}
use Rattle.arbiter.specs.declared.lesser.Lesser.{Lesser}
use Rattle.arbiter.specs.declared.question.Question.{Question}
use Rattle.arbiter.specs.declared.request_driven.RequestDriven.{RequestDriven}
use Rattle.tables.specs.Contents.{header_fault, header_of, head_at}
use Rattle.tables.specs.Ranges.{no_time}
use Rattle.tables.specs.declared.header.Header.{Header}
use Rattle.analysis.specs.Demand.{State}
use Rattle.analysis.specs.Times.{Filled, Shows}
use Rattle.plan.specs.Rehearsal.{Rehearsal, Rehearsed}
use Rattle.plan.specs.declared.change.Change.{Change}
use Rattle.plan.specs.declared.outcome.Outcome.{Outcome}
use Rattle.report.specs.Checked.{pile_bound}
use Rattle.report.specs.declared.times.Times.{Times}

-- h is the header of a file whose header is sound
abbrev pub HeaderFor : List ℕ → Header → Type 0
HeaderFor file h = header_fault file 0 ≡ None → h ≡ header_of (head_at file 0)

-- a rehearsal to its end, after which the plan says z and shows these times: one entry for each task that the header counts
pub record Ended (h : Header) (bound : Question → ℕ) (file : List ℕ) (changes : List Change) (old : List Outcome) (t : Times) (new : List Outcome) : Type 0 where
  pub z : State
  pub rehearsed : Rehearsed bound file changes old z new
  pub shown : Filled (length z.tasks) (Shows bound z) (replicate 64 no_time) t.entries
  pub counted : t.count ≡ h.tasks

abbrev pub Ends : Header → (Question → ℕ) → List ℕ → List Change → List Outcome → Result Times Refusal → List Outcome → Type 0
Ends h bound file changes old (Ok t) new = Ended h bound file changes old t new
Ends h bound file changes old (Err e) new = Rehearsal bound file changes old (Err e) new

-- the changes are rehearsed under the pile of our station for the cores in the file's header
pub record Day (file : List ℕ) (changes : List Change) (old : List Outcome) (r : Result Times Refusal) (new : List Outcome) : Type 0 where
  pub header : Header
  pub read : HeaderFor file header
  pub pile : Lesser RequestDriven JobDriven
  pub ours : OurPile header.cores pile
  pub ends : Ends header (pile_bound pile) file changes old r new
