-- Where tasks are eased, no demand grows and every task in time stays so. Assumes nothing.
use Rattle.std.proofs.Common.{◌≡◌, ℕ, zero, suc, ◌+◌, ◌-◌, ◌*◌, ◌<◌, ◌≤◌, min, true, false, cond, eqb, List, length, get_or, Some, None, Option, sym, refl, ap, ◌∙◌, subst, mod-lt, add-mul, mul-le-mul, mul-le-mul_left, one-mul, div-add-mod', arith}
use Rattle.std.proofs.lemmas.Nat.{div_below}
use Rattle.terms.specs.Cores.{number_of}
use Rattle.terms.specs.declared.cores.Core.{Core}
use Rattle.terms.specs.declared.cores.Core.TheVariants.{Zero, One, Two, Three}
use Rattle.terms.specs.Sums.{sum_where}
use Rattle.terms.proofs.Sums.{sum_under}
use Rattle.arbiter.specs.Questions.{NoMore, count}
use Rattle.arbiter.specs.declared.question.Question.{Question}
use Rattle.tables.specs.Ranges.{execution_on, requests_on, no_partition}
use Rattle.tables.specs.declared.model.Task.{Task}
use Rattle.analysis.specs.Placed.{core_at, is_core}
use Rattle.analysis.specs.Demand.{State, task, place, on, beside, ahead, busy, others, question, demand, limit, jobs, own_jobs, other_jobs}
use Rattle.analysis.specs.Easing.{Eased}
use Rattle.analysis.specs.Times.{InTime, InTimePlaced, demand_on}
use Rattle.analysis.proofs.Rise.{Rises, demand_rises}
use Rattle.analysis.proofs.Settling.{settles}

-- a longer period has no more jobs
pub jobs_fewer : (t short long : ℕ) → 0 < short → short ≤ long → jobs t long ≤ jobs t short
jobs_fewer t short long some h =
    let m = jobs t short in
    let parts = div-add-mod' (t + (short - 1)) short in
    let rest = mod-lt (t + (short - 1)) some in
    let whole : t ≤ m * short = omega arith in
    let wider = mul-le-mul_left m h in
    let sum = add-mul m 1 long in
    let one = one-mul long in
    let below : jobs t long < m + 1 = div_below (t + (long - 1)) long (m + 1) (omega arith) (omega arith) in
    omega arith

four : (p : Core) → number_of p < 4
four Zero = omega arith
four One = omega arith
four Two = omega arith
four Three = omega arith

min_under : (a b c d e f : ℕ) → a ≤ d → b ≤ e → c ≤ f → min a (min b c) ≤ min d (min e f)
min_under a b c d e f x y z = omega arith

-- the same plan with other tasks
module _ (s : State) (ts : List Task) where
  abbrev pub with_tasks : State
  with_tasks = record { cores = s.cores; partitions = s.partitions; tasks = ts; links = s.links; placement = s.placement }

  module _ (long : length ts ≡ length s.tasks) (eased : (k : ℕ) → Eased (task s k) (task with_tasks k)) (periodic : (k : ℕ) → k < length s.tasks → 0 < (task s k).period.0) where
    place_same : (k : ℕ) → place with_tasks k ≡ place s k
    place_same k = ap (core_at s.placement) (eased k).partition

    on_same : (q k : ℕ) → on with_tasks q k ≡ on s q k
    on_same q k = ap (λ (o : Option Core). is_core o q) (place_same k)

    beside_same : (i k : ℕ) → beside with_tasks i k ≡ beside s i k
    beside_same i k = ap (λ n. eqb n (task with_tasks i).partition) (eased k).partition ∙ ap (λ n. eqb (task s k).partition n) (eased i).partition

    own_fewer : (k t : ℕ) → k < length s.tasks → own_jobs (task with_tasks k) t ≤ own_jobs (task s k) t
    own_fewer k t h = jobs_fewer t (task s k).period.0 (task with_tasks k).period.0 (periodic k h) (eased k).period

    other_fewer : (k t : ℕ) → k < length s.tasks → other_jobs (task with_tasks k) t ≤ other_jobs (task s k) t
    other_fewer k t h = jobs_fewer t (task s k).period.0 (task with_tasks k).period.0 (periodic k h) (eased k).period

    ahead_less : (i t : ℕ) (weight : Task → ℕ) → i < length s.tasks → ((k : ℕ) → weight (task with_tasks k) ≤ weight (task s k)) → ahead with_tasks i weight t ≤ ahead s i weight t
    ahead_less i t weight within less =
        sum_under (beside with_tasks i) (beside s i) (λ k. own_jobs (task with_tasks k) t * weight (task with_tasks k)) (λ k. own_jobs (task s k) t * weight (task s k)) i
        (λ k _. beside_same i k) (λ k below. mul-le-mul (own_fewer k t (omega arith)) (less k))

    busy_less : (q t : ℕ) → q < 4 → busy with_tasks q t ≤ busy s q t
    busy_less q t h =
        subst (λ n. sum_where n (on with_tasks q) (λ k. other_jobs (task with_tasks k) t * requests_on (task with_tasks k) q) ≤ busy s q t) (sym long)
        (sum_under (on with_tasks q) (on s q) (λ k. other_jobs (task with_tasks k) t * requests_on (task with_tasks k) q) (λ k. other_jobs (task s k) t * requests_on (task s k) q) (length s.tasks)
        (λ k _. on_same q k) (λ k below. mul-le-mul (other_fewer k t below) ((eased k).requests q h)))

    others_less : (p q t : ℕ) → q < 4 → others with_tasks p q t ≤ others s p q t
    others_less p q t h =
        elim (eqb q p) as (λ b. cond b 0 (busy with_tasks q t) ≤ cond b 0 (busy s q t)) [
          | true ↦ omega arith
          | false ↦ busy_less q t h
        ]

    module _ (i : ℕ) (within : i < length s.tasks) (p : Core) (t : ℕ) where
      each_less : (k : ℕ) → k < 4 → count (question with_tasks i p t) k ≤ count (question s i p t) k
      each_less zero h = others_less (number_of p) 0 t h
      each_less (suc zero) h = others_less (number_of p) 1 t h
      each_less (suc (suc zero)) h = others_less (number_of p) 2 t h
      each_less (suc (suc (suc zero))) h = others_less (number_of p) 3 t h
      each_less (suc (suc (suc (suc k)))) h = absurd (omega arith)

      question_less : NoMore (question with_tasks i p t) (question s i p t)
      question_less = record {
        core = refl;
        sharing = refl;
        t = omega arith;
        own = omega (arith, (eased i).requests (number_of p) (four p), ahead_less i t (λ x. requests_on x (number_of p)) within (λ k. (eased k).requests (number_of p) (four p)));
        others = each_less;
      }

      -- no demand grows
      pub demand_less : (bound : Question → ℕ) → Rises bound → demand with_tasks bound i p t ≤ demand s bound i p t
      demand_less bound rises =
          omega (arith, (eased i).execution (number_of p) (four p), ahead_less i t (λ x. execution_on x (number_of p)) within (λ k. (eased k).execution (number_of p) (four p)), rises (question with_tasks i p t) (question s i p t) question_less)

    -- no limit is shortened
    limit_kept : (i : ℕ) → limit s i ≤ limit with_tasks i
    limit_kept i =
        let there = ap (λ n. (get_or s.partitions n no_partition).period.0) (eased i).partition in
        min_under _ _ _ _ _ _ (eased i).deadline (omega arith) (eased i).period

    module _ (bound : Question → ℕ) (rises : Rises bound) (i : ℕ) (within : i < length s.tasks) where
      kept_at : (o : Option Core) → InTimePlaced (demand_on bound s i) (limit s i) o → InTimePlaced (demand_on bound with_tasks i) (limit with_tasks i) o
      kept_at None h = tt
      kept_at (Some p) h =
          let t = h.0 in
          let is = h.1.0 in
          settles (demand_on bound with_tasks i p) (λ a b l. demand_rises with_tasks a b l i p bound rises) (limit with_tasks i) t
          (omega (arith, demand_less i within p t bound rises, is.0)) (omega (arith, limit_kept i, is.1))

      -- a task in time stays in time
      pub in_time_kept : InTime bound s i → InTime bound with_tasks i
      in_time_kept h = subst (InTimePlaced (demand_on bound with_tasks i) (limit with_tasks i)) (sym (place_same i)) (kept_at (place s i) h)
