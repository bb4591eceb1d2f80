-- What an allocation says. Assumes nothing.
use Rattle.std.specs.Prelude.{ℕ, ◌-◌, Bool, ◌||◌, List, ◌++◌, map, length, replicate, None, Option, ◌==◌, nat_lt}
use Rattle.terms.specs.Cores.{numbered}
use Rattle.terms.specs.declared.cores.Core.{Core}

-- an entry is the number of a core of the computer, or 255 for none
abbrev pub names_core : ℕ → ℕ → Bool
names_core cores b = b == 255 || nat_lt b cores

-- the placements of the sixteen partitions that entries say; past them nothing is placed
abbrev pub laid : List ℕ → List (Option Core)
laid entries = map numbered entries ++ replicate (16 - length entries) None
