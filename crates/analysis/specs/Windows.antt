-- The window of a partition: the largest time of its tasks. Assumes nothing.
use Rattle.std.specs.Prelude.{◌≡◌, ℕ, ◌<◌, ◌≤◌, ◌⊎◌, List, length, Some, None, Result}
use Rattle.terms.specs.Units.{Picos}
use Rattle.terms.specs.declared.refusal.Refusal.{Refusal}
use Rattle.arbiter.specs.declared.question.Question.{Question}
use Rattle.analysis.specs.Demand.{State, task}
use Rattle.analysis.specs.Times.{TimeIs, Fills}

module _ (bound : Question → ℕ) (s : State) (p : ℕ) where
  -- task k is one of the first n, of the partition p
  abbrev pub Of : ℕ → ℕ → Type 0
  Of n k = (k < n) × ((task s k).partition ≡ p)

  -- v is the largest time of the tasks of p among the first n, or 0 where there is none
  pub record Largest (n : ℕ) (v : Picos) : Type 0 where
    pub each : (k : ℕ) → Of n k → (t : Picos) × TimeIs bound s k (Some t) × (t.0 ≤ v.0)
    pub reached : (v.0 ≡ 0) ⊎ ((k : ℕ) × Of n k × TimeIs bound s k (Some v))

  -- v is the window of p: the largest time of its tasks; 0 where one of them has none, as in a partition that is not placed
  abbrev pub Window : Picos → Type 0
  Window v = Largest (length s.tasks) v ⊎ ((v.0 ≡ 0) × ((k : ℕ) × Of (length s.tasks) k × TimeIs bound s k None))

-- what asking for the windows answers, and what it leaves in the buffer
abbrev pub Windows : {U : Type 0} → (Question → ℕ) → State → List Picos → Result U Refusal → List Picos → Type 0
Windows bound s old r new = Fills (length s.partitions) (Window bound s) old r new
