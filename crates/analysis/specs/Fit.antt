-- One task in range. Assumes nothing.
use Rattle.std.specs.Prelude.{ℕ, ◌^◌, ◌≤◌}
use Rattle.tables.specs.Ranges.{Period, execution_on, requests_on}
use Rattle.tables.specs.declared.model.Task.{Task}

pub record Fit (x : Task) : Type 0 where
  pub period : Period x.period.0
  pub deadline : x.deadline.0 ≤ 10 ^ 13
  pub job : (q : ℕ) → (execution_on x q ≤ 10 ^ 13) × (requests_on x q ≤ 10 ^ 6)
