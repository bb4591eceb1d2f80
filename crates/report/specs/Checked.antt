-- What the listing of a plan is, and the text that the program checker prints. Assumes nothing.
use Rattle.std.specs.Prelude.{◌≡◌, ℕ, ◌<◌, min, ◌⊎◌, List, length, Ok, Err, Result, slice_index_or}
use Rattle.terms.specs.Refusals.{told}
use Rattle.terms.specs.Units.{Picos}
use Rattle.terms.specs.declared.refusal.Refusal.{Refusal}
use Rattle.arbiter.specs.Bounds.{request_bound, job_bound}
use Rattle.arbiter.specs.Station.{OurPile}
use Rattle.arbiter.specs.declared.job_driven.JobDriven.{JobDriven}
use Rattle.arbiter.specs.declared.lesser.Lesser.{Lesser}
use Rattle.arbiter.specs.declared.question.Question.{Question}
use Rattle.arbiter.specs.declared.request_driven.RequestDriven.{RequestDriven}
use Rattle.tables.specs.Contents.{Book, decode}
use Rattle.tables.specs.Ranges.{no_time}
use Rattle.tables.specs.Reading.{Refused}
use Rattle.analysis.specs.Demand.{State}
use Rattle.analysis.specs.Times.{Shows}
use Rattle.plan.specs.Born.{Born, state_of}
use Rattle.plan.specs.Calls.{Call, adopt_asks}
use Rattle.report.specs.Text.{Written, listing, refusal_text}
use Rattle.report.specs.declared.judged.Adopted.{Adopted}

-- a buffer before and after the listing of a plan that says s was written into it: one line for each task, with its time under the bound, or 0
pub record Listed (bound : Question → ℕ) (s : State) (old : List ℕ) (r : Result ℕ Refusal) (new : List ℕ) : Type 0 where
  pub times : List Picos
  pub each : length times ≡ length s.tasks
  pub shown : (k : ℕ) → k < length times → Shows bound s k (slice_index_or times k no_time)
  pub written : Written (listing times) old r new

-- the bound of the pile of our station: the lesser of its two
abbrev pub pile_bound : Lesser RequestDriven JobDriven → Question → ℕ
pile_bound a q = min (request_bound a.first q) (job_bound a.second q)

-- A plan is born from the file, the pile is that of our station for the file's cores, and under its bound the plan is
-- asked to adopt the entries: it answers r, and says z after it.
pub record Judged (file entries : List ℕ) (pile : Lesser RequestDriven JobDriven) (r : Result (Unit {0}) Refusal) (z : State) : Type 0 where
  pub birth : State
  pub born : Born file birth
  pub ours : OurPile birth.cores pile
  pub call : Call (pile_bound pile) birth (adopt_asks birth entries) r z

-- a plan that has adopted the entries, or the refusal by the file or by the plan
abbrev pub Judgement : List ℕ → List ℕ → Result Adopted Refusal → Type 0
Judgement file entries (Ok a) = Judged file entries a.pile (Ok tt) (state_of a.plan)
Judgement file entries (Err e) = Refused file e ⊎ ((pile : Lesser RequestDriven JobDriven) × (z : State) × Judged file entries pile (Err e) z)

-- a buffer before and after what a plan that says z has answered was written into it: the listing, or the refusal
abbrev pub Told : (Question → ℕ) → Result (Unit {0}) Refusal → State → List ℕ → Result ℕ Refusal → List ℕ → Type 0
Told bound (Ok u) z old r new = Listed bound z old r new
Told bound (Err e) z old r new = Written (refusal_text (told e)) old r new

-- the same of a file that is accepted, and of the entries that its plan is asked to adopt
pub record Answered (file entries old : List ℕ) (r : Result ℕ Refusal) (new : List ℕ) : Type 0 where
  pub pile : Lesser RequestDriven JobDriven
  pub answer : Result (Unit {0}) Refusal
  pub after : State
  pub judged : Judged file entries pile answer after
  pub text : Told (pile_bound pile) answer after old r new

-- the same of any file, by what it says
abbrev pub CheckedBy : Result Book (ℕ × ℕ) → List ℕ → List ℕ → List ℕ → Result ℕ Refusal → List ℕ → Type 0
CheckedBy (Ok book) file entries old r new = Answered file entries old r new
CheckedBy (Err t) file entries old r new = Written (refusal_text t) old r new

-- a buffer before and after the text that checker prints of a file and of entries was written into it
unfoldable pub Checked : List ℕ → List ℕ → List ℕ → Result ℕ Refusal → List ℕ → Type 0
Checked file entries old r new = CheckedBy (decode file) file entries old r new
