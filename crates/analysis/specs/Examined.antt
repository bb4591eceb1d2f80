-- The demand of a task under examination. Assumes nothing.
use Rattle.std.specs.Prelude.{◌≡◌, ℕ, ◌+◌, List, [], ◌∷◌, Some}
use Rattle.terms.specs.Cores.{number_of}
use Rattle.terms.specs.Units.{amount, Requests}
use Rattle.arbiter.specs.declared.question.Question.{Question}
use Rattle.tables.specs.Ranges.{execution_on, requests_on}
use Rattle.tables.specs.declared.model.Task.{Task}
use Rattle.analysis.specs.Demand.{State, task, place, demand, limit}
use Rattle.analysis.specs.Roles.{all_ahead, all_on}
use Rattle.analysis.specs.declared.examined.Examined.{Examined}

module _ (tasks : List Task) (e : Examined) where
  abbrev on : ℕ → ℕ → Requests
  on q t = amount (all_on tasks e.roles.of q t)

  -- what the arbiter is asked for it
  abbrev pub question_of : ℕ → Question
  question_of t = record {
    core = e.core;
    t = amount t;
    own = amount (e.requests.0 + all_ahead tasks e.roles.of (λ x. requests_on x (number_of e.core)) t);
    others = on 0 t ∷ on 1 t ∷ on 2 t ∷ on 3 t ∷ [];
    sharing = e.sharing;
  }

  -- its demand
  abbrev pub demand_of : (Question → ℕ) → ℕ → ℕ
  demand_of bound t = e.execution.0 + all_ahead tasks e.roles.of (λ x. execution_on x (number_of e.core)) t + bound (question_of t)

-- e is task i: on its core, with its limit, and with its demand under every bound and up to every time
pub record Examines (s : State) (i : ℕ) (e : Examined) : Type 0 where
  pub core : place s i ≡ Some e.core
  pub start : e.execution.0 ≡ execution_on (task s i) (number_of e.core)
  pub limit : e.limit.0 ≡ limit s i
  pub demand : (bound : Question → ℕ) (t : ℕ) → demand_of s.tasks e bound t ≡ demand s bound i e.core t
