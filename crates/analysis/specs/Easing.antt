-- When a task is eased. Assumes nothing.
use Rattle.std.specs.Prelude.{◌≡◌, ℕ, ◌<◌, ◌≤◌}
use Rattle.tables.specs.Ranges.{execution_on, requests_on}
use Rattle.tables.specs.declared.model.Task.{Task}

-- y is of the same partition as x, with no execution time or count of requests raised on any of the four cores, and
-- neither the period nor the deadline shortened
pub record Eased (x y : Task) : Type 0 where
  pub partition : y.partition ≡ x.partition
  pub execution : (q : ℕ) → q < 4 → execution_on y q ≤ execution_on x q
  pub requests : (q : ℕ) → q < 4 → requests_on y q ≤ requests_on x q
  pub period : x.period.0 ≤ y.period.0
  pub deadline : x.deadline.0 ≤ y.deadline.0
