-- The steps of an iteration over the definitions, from the execution time upward. Assumes nothing.
use Rattle.std.proofs.Common.{◌≡◌, ℕ, ◌<◌, ◌≤◌, Some, sym, subst, arith}
use Rattle.terms.specs.Cores.{number_of}
use Rattle.terms.specs.declared.cores.Core.{Core}
use Rattle.terms.specs.Units.{amount, Picos}
use Rattle.arbiter.specs.declared.question.Question.{Question}
use Rattle.tables.specs.Ranges.{execution_on}
use Rattle.analysis.specs.Demand.{State, task, demand, limit, place}
use Rattle.analysis.specs.Times.{demand_on, TimeIs, LateAt, InTime, TellsPlaced, LatePlaced, InTimePlaced}
use Rattle.analysis.proofs.Least.{Under, under_start, under_step, under_found, under_late}
use Rattle.analysis.proofs.Rise.{Rises, demand_rises, demand_above}

module _ (bound : Question → ℕ) (s : State) (i : ℕ) (p : Core) where
  pub starts : (c : ℕ) → c ≡ execution_on (task s i) (number_of p) → Under (demand_on bound s i p) c
  starts c e = under_start (demand_on bound s i p) c (λ t. omega (arith, demand_above s bound i p t))

  pub steps : Rises bound → (t n : ℕ) → n ≡ demand s bound i p t → Under (demand_on bound s i p) t → Under (demand_on bound s i p) n
  steps rises t n e u = under_step (demand_on bound s i p) (λ a b h. demand_rises s a b h i p bound rises) t n e u

  module _ (at : place s i ≡ Some p) (t : ℕ) (u : Under (demand_on bound s i p) t) where
    pub found : (r : Picos) → r.0 ≡ t → demand s bound i p t ≡ t → t ≤ limit s i → TimeIs bound s i (Some r)
    found r e fixed within =
        subst (λ o. TellsPlaced (demand_on bound s i) (limit s i) o (Some r)) (sym at)
        (subst (λ n. TellsPlaced (demand_on bound s i) (limit s i) (Some p) (Some (amount n))) (sym e) (under_found (demand_on bound s i p) (limit s i) t u fixed within))

    pub found_in_time : demand s bound i p t ≡ t → t ≤ limit s i → InTime bound s i
    found_in_time fixed within =
        subst (InTimePlaced (demand_on bound s i) (limit s i)) (sym at) (t, under_found (demand_on bound s i p) (limit s i) t u fixed within)

    pub passed_late : limit s i < t → LateAt bound s i
    passed_late beyond =
        subst (LatePlaced (demand_on bound s i) (limit s i)) (sym at) (under_late (demand_on bound s i p) (limit s i) t u beyond)
