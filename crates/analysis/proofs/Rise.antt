-- The demand of a task rises with the time, under a bound that rises. Assumes nothing.
use Rattle.std.proofs.Common.{ℕ, zero, suc, ◌*◌, ◌<◌, ◌≤◌, true, false, cond, eqb, length, refl, mul-le-mul_right, arith}
use Rattle.terms.specs.Cores.{number_of}
use Rattle.terms.specs.declared.cores.Core.{Core}
use Rattle.terms.proofs.Sums.{sum_mono}
use Rattle.arbiter.specs.Questions.{NoMore, count}
use Rattle.arbiter.specs.declared.question.Question.{Question}
use Rattle.tables.specs.Ranges.{execution_on, requests_on}
use Rattle.tables.specs.declared.model.Task.{Task}
use Rattle.analysis.specs.Demand.{State, task, on, beside, ahead, busy, others, question, demand, own_jobs, other_jobs}
use Rattle.analysis.proofs.Counts.{jobs_rise}

-- a bound that rises
abbrev pub Rises : (Question → ℕ) → Type 0
Rises bound = (x y : Question) → NoMore x y → bound x ≤ bound y

pub own_jobs_rise : (x : Task) (t u : ℕ) → t ≤ u → own_jobs x t ≤ own_jobs x u
own_jobs_rise x t u h = jobs_rise x.period.0 t u h

pub other_jobs_rise : (x : Task) (t u : ℕ) → t ≤ u → other_jobs x t ≤ other_jobs x u
other_jobs_rise x t u h = jobs_rise x.period.0 t u h

module _ (s : State) (t u : ℕ) (later : t ≤ u) where
  ahead_rises : (i : ℕ) (weight : Task → ℕ) → ahead s i weight t ≤ ahead s i weight u
  ahead_rises i weight =
      sum_mono (beside s i) (λ k. own_jobs (task s k) t * weight (task s k)) (λ k. own_jobs (task s k) u * weight (task s k)) i
      (λ k _. mul-le-mul_right (weight (task s k)) (own_jobs_rise (task s k) t u later))

  busy_rises : (q : ℕ) → busy s q t ≤ busy s q u
  busy_rises q =
      sum_mono (on s q) (λ k. other_jobs (task s k) t * requests_on (task s k) q) (λ k. other_jobs (task s k) u * requests_on (task s k) q) (length s.tasks)
      (λ k _. mul-le-mul_right (requests_on (task s k) q) (other_jobs_rise (task s k) t u later))

  others_rise : (p q : ℕ) → others s p q t ≤ others s p q u
  others_rise p q =
      elim (eqb q p) as (λ b. cond b 0 (busy s q t) ≤ cond b 0 (busy s q u)) [
        | true ↦ omega arith
        | false ↦ busy_rises q
      ]

  module _ (i : ℕ) (p : Core) where
    each_rises : (k : ℕ) → k < 4 → count (question s i p t) k ≤ count (question s i p u) k
    each_rises zero h = others_rise (number_of p) 0
    each_rises (suc zero) h = others_rise (number_of p) 1
    each_rises (suc (suc zero)) h = others_rise (number_of p) 2
    each_rises (suc (suc (suc zero))) h = others_rise (number_of p) 3
    each_rises (suc (suc (suc (suc k)))) h = absurd (omega arith)

    question_rises : NoMore (question s i p t) (question s i p u)
    question_rises = record {
      core = refl;
      sharing = refl;
      t = later;
      own = omega (arith, ahead_rises i (λ x. requests_on x (number_of p)));
      others = each_rises;
    }

    pub demand_rises : (bound : Question → ℕ) → Rises bound → demand s bound i p t ≤ demand s bound i p u
    demand_rises bound rises =
        omega (arith, ahead_rises i (λ x. execution_on x (number_of p)), rises (question s i p t) (question s i p u) question_rises)

-- it is never less than the task's own execution time
pub demand_above : (s : State) (bound : Question → ℕ) (i : ℕ) (p : Core) (t : ℕ) → execution_on (task s i) (number_of p) ≤ demand s bound i p t
demand_above s bound i p t = omega arith
