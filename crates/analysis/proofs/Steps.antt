-- The iteration for a task under examination, from its execution time upward. Assumes nothing.
use Rattle.std.proofs.Common.{◌≡◌, ℕ, ◌<◌, ◌≤◌, None, sym, ◌∙◌, subst, arith}
use Rattle.arbiter.specs.declared.question.Question.{Question}
use Rattle.analysis.specs.Demand.{State, limit}
use Rattle.analysis.specs.Examined.{Examines, demand_of}
use Rattle.analysis.specs.Times.{demand_on, TimeIs, InTime, TellsPlaced, InTimePlaced}
use Rattle.analysis.specs.declared.examined.Examined.{Examined}
use Rattle.analysis.proofs.Least.{Under, under_start, under_step, under_found, under_late}
use Rattle.analysis.proofs.Rise.{Rises, demand_rises, demand_above}

-- t has not passed the time of task i, whose demand is that of e
abbrev pub Reached : (Question → ℕ) → State → ℕ → Examined → ℕ → Type 0
Reached bound s i e t = Under (demand_on bound s i e.core) t × (demand_of s.tasks e bound t ≡ demand_on bound s i e.core t)

module _ (bound : Question → ℕ) (s : State) (i : ℕ) (e : Examined) (x : Examines s i e) where
  pub reached_start : (c : ℕ) → c ≡ e.execution.0 → Reached bound s i e c
  reached_start c is = (under_start (demand_on bound s i e.core) c (λ t. omega (arith, x.start, demand_above s bound i e.core t)), x.demand bound c)

  pub reached_next : (t n : ℕ) → Under (demand_on bound s i e.core) t → n ≡ demand_of s.tasks e bound t → Rises bound → Reached bound s i e n
  reached_next t n u next rises =
      (under_step (demand_on bound s i e.core) (λ a b h. demand_rises s a b h i e.core bound rises) t n (next ∙ x.demand bound t) u, x.demand bound n)

  module _ (t : ℕ) (u : Under (demand_on bound s i e.core) t) where
    pub found_in_time : (n k : ℕ) → n ≡ demand_of s.tasks e bound t → n ≡ t → t ≤ e.limit.0 → k ≡ i → InTime bound s k
    found_in_time n k next fixed within same =
        subst (InTime bound s) (sym same)
        (subst (InTimePlaced (demand_on bound s i) (limit s i)) (sym x.core) (t, under_found (demand_on bound s i e.core) (limit s i) t u (sym (x.demand bound t) ∙ sym next ∙ fixed) (omega (arith, x.limit))))

    pub passed : e.limit.0 < t → TimeIs bound s i None
    passed beyond = subst (λ o. TellsPlaced (demand_on bound s i) (limit s i) o None) (sym x.core) (under_late (demand_on bound s i e.core) (limit s i) t u (omega (arith, x.limit)))
