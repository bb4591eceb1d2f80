-- What a table file says. Assumes nothing.
use Rattle.std.specs.Prelude.{ℕ, ◌+◌, Bool, not, ◌&&◌, ◌||◌, List, [], length, None, Ok, Option, Result, ◌==◌, nat_le, nat_lt}
use Rattle.terms.specs.declared.refusal.Refusal.{Refusal}
use Rattle.terms.specs.declared.refusal.Refusal.TheVariants.{Incomplete, FieldRange, BytesAfterEnd}
use Rattle.tables.specs.declared.model.Partition.{Partition}
use Rattle.tables.specs.declared.model.Task.{Task}
use Rattle.tables.specs.declared.model.Link.{Link}
use Rattle.tables.specs.declared.header.Header.{Header}
use Rattle.tables.specs.Packed.{bits_at}
use Rattle.tables.specs.Kinds.{part, rows_from, and_then, unless, when}
use Rattle.tables.specs.RowKinds.{partition_kind, task_kind, link_kind}

-- the header: cores (3 bits), partitions (5), tasks (7), links (7), and two spare bits that are 0
abbrev pub header_of : List ℕ → Header
header_of b = record { cores = bits_at 0 3 b; partitions = bits_at 3 5 b; tasks = bits_at 8 7 b; links = bits_at 15 7 b }

abbrev pub header_in_range : Header → Bool
header_in_range h = nat_le 1 h.cores && (nat_le h.cores 4 && (nat_le h.partitions 16 && (nat_le h.tasks 64 && nat_le h.links 120)))

-- the header's bytes at offset o, and what is wrong with them
module _ (file : List ℕ) (o : ℕ) where
  abbrev pub head_at : List ℕ
  head_at = part file o 3

  abbrev pub header_fault : Option Refusal
  header_fault =
      when (nat_lt (length file) (o + 3)) (Incomplete o)
      (when (not (header_in_range (header_of head_at)) || not (bits_at 22 2 head_at == 0)) (FieldRange o) None)

  -- bytes that follow offset o
  abbrev pub end_fault : Option Refusal
  end_fault = when (nat_lt o (length file)) (BytesAfterEnd o) None

-- the rows of a file, each with its name; a link's is empty
pub record Book : Type 0 where
  pub cores : ℕ
  pub partitions : List (Partition × List ℕ)
  pub tasks : List (Task × List ℕ)
  pub links : List (Link × List ℕ)

-- what follows a header
abbrev pub decode_after : List ℕ → Header → Result Book (ℕ × ℕ)
decode_after file h =
    and_then (rows_from partition_kind file h.partitions h.partitions 3 []) (λ ps.
    and_then (rows_from task_kind file h.partitions h.tasks ps.0 []) (λ ts.
    and_then (rows_from link_kind file h.partitions h.links ts.0 []) (λ ls.
    unless (end_fault file ls.0)
    (Ok (record { cores = h.cores; partitions = ps.1; tasks = ts.1; links = ls.1 })))))

-- what a file says, or the number of its first fault and what it tells
abbrev pub decode : List ℕ → Result Book (ℕ × ℕ)
decode file = unless (header_fault file 0) (decode_after file (header_of (head_at file 0)))
