-- The part that each task plays in the demand of a task, whatever the time. Assumes nothing.
use Rattle.std.specs.Prelude.{ℕ, ◌*◌, Bool, true, false, cond, ◌&&◌, List, length, Some, None, Option, ◌==◌, nat_lt, slice_index_or}
use Rattle.terms.specs.Cores.{number_of}
use Rattle.terms.specs.Sums.{sum_where}
use Rattle.terms.specs.declared.cores.Core.{Core}
use Rattle.tables.specs.Ranges.{no_task, requests_on}
use Rattle.tables.specs.declared.model.Task.{Task}
use Rattle.analysis.specs.Demand.{State, place, beside, own_jobs, other_jobs}
use Rattle.analysis.specs.declared.role.Role.{Role}
use Rattle.analysis.specs.declared.role.Role.TheVariants.{Aside, Ahead, Other}

-- the part of a task in the demand of a task on core p, by whether it is ahead of that task and by its place
abbrev pub part : Bool → Core → Option Core → Role
part ahead p None = Aside
part ahead p (Some q) = cond (number_of q == number_of p) (cond ahead Ahead Aside) (Other q)

-- the part of task k in the demand of task i on core p
abbrev pub role : State → ℕ → Core → ℕ → Role
role s i p k = part (nat_lt k i && beside s i k) p (place s k)

-- whether it is of the higher-priority set
abbrev pub is_ahead : Role → Bool
is_ahead Aside = false
is_ahead Ahead = true
is_ahead (Other core) = false

-- whether it is on another core, and that is core q
abbrev pub is_on : ℕ → Role → Bool
is_on q Aside = false
is_on q Ahead = false
is_on q (Other core) = number_of core == q

module _ (tasks : List Task) (roles : List Role) where
  -- the sum of jobs × weight over the tasks ahead, up to t
  abbrev pub all_ahead : (Task → ℕ) → ℕ → ℕ
  all_ahead weight t = sum_where (length tasks) (λ k. is_ahead (slice_index_or roles k Aside)) (λ k. own_jobs (slice_index_or tasks k no_task) t * weight (slice_index_or tasks k no_task))

  -- the requests of the tasks on another core q, up to t
  abbrev pub all_on : ℕ → ℕ → ℕ
  all_on q t = sum_where (length tasks) (λ k. is_on q (slice_index_or roles k Aside)) (λ k. other_jobs (slice_index_or tasks k no_task) t * requests_on (slice_index_or tasks k no_task) q)
