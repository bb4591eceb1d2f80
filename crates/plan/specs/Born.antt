-- What a plan says, and what it says at its birth from a file. Assumes nothing.
use Rattle.std.specs.Prelude.{◌≡◌, ℕ, List, replicate, None}
use Rattle.tables.specs.Layout.{Tabled}
use Rattle.tables.specs.Reading.{Accepted}
use Rattle.analysis.specs.Demand.{State, state}
use Rattle.plan.specs.declared.plan.Plan.{Plan}

-- what a plan says
abbrev pub state_of : Plan → State
state_of p = state p.tables p.placement

-- the tables among it
abbrev pub tables_in : State → Tabled
tables_in s = record { cores = s.cores; partitions = s.partitions; tasks = s.tasks; links = s.links }

-- the file is accepted, s has its tables, and nothing is placed
pub record Born (file : List ℕ) (s : State) : Type 0 where
  pub read : Accepted file (tables_in s)
  pub unplaced : s.placement ≡ replicate 16 None
