-- What the calls on a plan do. Assumes nothing.
use Rattle.std.specs.Prelude.{◌≡◌, ℕ, cond, List, map, length, is_some, Some, None, Ok, Err, Option, Result, ◌==◌, nat_lt, slice_index_or, slice_set}
use Rattle.terms.specs.Cores.{numbered}
use Rattle.terms.specs.Refusals.{told}
use Rattle.terms.specs.declared.cores.Core.{Core}
use Rattle.terms.specs.declared.refusal.Refusal.{Refusal}
use Rattle.terms.specs.Checks.{first_out}
use Rattle.arbiter.specs.declared.question.Question.{Question}
use Rattle.tables.specs.Ranges.{no_task}
use Rattle.tables.specs.Retimed.{retimed, numbers_in_range}
use Rattle.tables.specs.declared.numbers.Numbers.{Numbers}
use Rattle.analysis.specs.Demand.{State}
use Rattle.analysis.specs.Placed.{core_at}
use Rattle.analysis.specs.Times.{FirstLate}
use Rattle.analysis.specs.declared.placement.Placement.{Placement}
use Rattle.plan.specs.Adoption.{names_core, laid}

-- what a call asks for: the state with its change made, or the number of the first check that fails and what it tells
abbrev pub Asked : Type 0
Asked = Result State (ℕ × ℕ)

-- the state with other placements
abbrev pub replaced : State → List (Option Core) → State
replaced s placement = record { cores = s.cores; partitions = s.partitions; tasks = s.tasks; links = s.links; placement = placement }

-- refused with 10 at the index of an entry that names no core
abbrev pub known : Option ℕ → State → Asked
known (Some index) n = Err (10, index)
known None n = Ok n

-- adopt: one entry for each partition, each the number of a core or 255
abbrev pub adopt_asks : State → List ℕ → Asked
adopt_asks s entries =
    cond (length entries == length s.partitions)
    (known (first_out 0 (map (names_core s.cores) entries)) (replaced s (laid entries)))
    (Err (13, length entries))

-- place: the partition exists, and the core is one of the computer's; a placed partition moves
abbrev pub place_asks : State → ℕ → ℕ → Asked
place_asks s partition core =
    cond (nat_lt partition (length s.partitions))
    (cond (nat_lt core s.cores) (Ok (replaced s (slice_set s.placement partition (numbered core)))) (Err (10, core)))
    (Err (9, partition))

-- withdraw: the partition exists and is placed
abbrev pub withdraw_asks : State → ℕ → Asked
withdraw_asks s partition =
    cond (nat_lt partition (length s.partitions))
    (cond (is_some (core_at s.placement partition)) (Ok (replaced s (slice_set s.placement partition None))) (Err (12, partition)))
    (Err (9, partition))

-- the state with other numbers for a task
abbrev pub with_numbers : State → ℕ → Numbers → State
with_numbers s i n = record {
  cores = s.cores;
  partitions = s.partitions;
  tasks = slice_set s.tasks i (retimed (slice_index_or s.tasks i no_task) n);
  links = s.links;
  placement = s.placement;
}

-- refused with 14 at the position of a number out of range
abbrev pub ranged : Option ℕ → State → Asked
ranged (Some position) n = Err (14, position)
ranged None n = Ok n

-- retime: the task exists, and its numbers are in range
abbrev pub retime_asks : State → ℕ → Numbers → Asked
retime_asks s i n =
    cond (nat_lt i (length s.tasks)) (ranged (first_out 0 (numbers_in_range n)) (with_numbers s i n)) (Err (11, i))

-- a placement that is what is asked for in the state s, or a refusal that is
abbrev pub Allocates : Asked → State → Result Placement Refusal → Type 0
Allocates asked s (Ok p) = asked ≡ Ok (replaced s p.cores)
Allocates asked s (Err e) = asked ≡ Err (told e)

-- In the state s, a call that asks for a state answers r and leaves the state z. Refused by a check, it tells that check
-- and the state stands. Else it is accepted, with its change made, where every placed task is then in time; or it is
-- refused as late, with 15 and the first late task, and the state stands.
abbrev pub Call : {U : Type 0} → (Question → ℕ) → State → Asked → Result U Refusal → State → Type 0
Call bound s (Err t) (Ok u) z = ⊥
Call bound s (Err t) (Err e) z = (told e ≡ t) × (z ≡ s)
Call bound s (Ok n) (Ok u) z = FirstLate bound n None × (z ≡ n)
Call bound s (Ok n) (Err e) z = ((k : ℕ) × (told e ≡ (15, k)) × FirstLate bound n (Some k)) × (z ≡ s)
