-- What the four calls make of a plan, from its birth on. Assumes nothing.
use Rattle.std.specs.Prelude.{ℕ, List, [], ◌∷◌, vec_items, Result}
use Rattle.terms.specs.declared.refusal.Refusal.{Refusal}
use Rattle.arbiter.specs.declared.question.Question.{Question}
use Rattle.analysis.specs.Demand.{State}
use Rattle.plan.specs.Born.{Born}
use Rattle.plan.specs.Calls.{Asked, Call, adopt_asks, place_asks, withdraw_asks, retime_asks}
use Rattle.plan.specs.declared.change.Change.{Change}
use Rattle.plan.specs.declared.change.Change.TheVariants.{Adopt, Place, Withdraw, Retime}

-- what a change asks for
abbrev pub asks : State → Change → Asked
asks s (Adopt entries) = adopt_asks s (vec_items entries)
asks s (Place partition core) = place_asks s partition core
asks s (Withdraw partition) = withdraw_asks s partition
asks s (Retime task numbers) = retime_asks s task numbers

-- these changes, in their order, lead from one state to another under a bound; some of them may have been refused
pub data Runs (bound : Question → ℕ) : State → List Change → State → Type 0 where
  done : (s : State) → Runs bound s [] s
  next : (s m z : State) (c : Change) (cs : List Change) (r : Result (Unit {0}) Refusal) → Call bound s (asks s c) r m → Runs bound m cs z → Runs bound s (c ∷ cs) z

-- a plan that says z was born from the file, and since then only these changes have altered it
pub record History (bound : Question → ℕ) (file : List ℕ) (cs : List Change) (z : State) : Type 0 where
  pub birth : State
  pub born : Born file birth
  pub runs : Runs bound birth cs z
