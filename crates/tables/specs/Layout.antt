-- The file that tables and names make. Assumes nothing.
use Rattle.std.specs.Prelude.{◌≡◌, ℕ, ◌<◌, ◌≤◌, true, List, [], ◌∷◌, ◌++◌, map, length}
use Rattle.std.specs.List.{flat_map, AllByRecursion}
use Rattle.tables.specs.declared.model.Partition.{Partition}
use Rattle.tables.specs.declared.model.Task.{Task}
use Rattle.tables.specs.declared.model.Link.{Link}
use Rattle.tables.specs.Packed.{pack, octets}
use Rattle.tables.specs.Kinds.{row_bytes, good_name}
use Rattle.tables.specs.RowKinds.{partition_kind, task_kind, link_kind, task_in_range, count_in, comes_before}
use Rattle.tables.specs.Ranges.{Period}
use Rattle.tables.specs.Contents.{Book}

-- the tables of a computer
pub record Tabled : Type 0 where
  pub cores : ℕ
  pub partitions : List Partition
  pub tasks : List Task
  pub links : List Link

-- the names of its partitions and tasks
pub record Named : Type 0 where
  pub partitions : List (List ℕ)
  pub tasks : List (List ℕ)

abbrev pub tables_of : Book → Tabled
tables_of b = record {
  cores = b.cores;
  partitions = map (λ e. e.0) b.partitions;
  tasks = map (λ e. e.0) b.tasks;
  links = map (λ e. e.0) b.links;
}

abbrev pub names_of : Book → Named
names_of b = record { partitions = map (λ e. e.1) b.partitions; tasks = map (λ e. e.1) b.tasks }

abbrev pub paired : {X Y : Type 0} → List X → List Y → List (X × Y)
paired [] ys = []
paired (x ∷ xs) [] = []
paired (x ∷ xs) (y ∷ ys) = (x, y) ∷ paired xs ys

abbrev pub header_widths : List ℕ
header_widths = 3 ∷ 5 ∷ 7 ∷ 7 ∷ 2 ∷ []

-- the file of these tables and names
abbrev pub layout : Tabled → Named → List ℕ
layout t n =
    octets 3 (pack header_widths (t.cores ∷ length t.partitions ∷ length t.tasks ∷ length t.links ∷ 0 ∷ []))
    ++ (flat_map (row_bytes partition_kind) (paired t.partitions n.partitions)
    ++ (flat_map (row_bytes task_kind) (paired t.tasks n.tasks)
    ++ flat_map (λ l. link_kind.fixed l 0) t.links))

-- links that come after l, in rising order of their pairs, none twice
abbrev pub RisingAfter : Link → List Link → Type 0
RisingAfter l [] = Unit {0}
RisingAfter l (m ∷ ms) = (comes_before l m ≡ true) × RisingAfter m ms

abbrev pub Rising : List Link → Type 0
Rising [] = Unit {0}
Rising (l ∷ ls) = RisingAfter l ls

-- a task of a computer with so many partitions
pub record TaskFits (parts : ℕ) (t : Task) : Type 0 where
  pub member : t.partition < parts
  pub range : task_in_range t ≡ true
  pub executions : length t.execution ≡ 4
  pub counts : length t.requests ≡ 4

pub record LinkFits (parts : ℕ) (l : Link) : Type 0 where
  pub pair : l.first < l.second
  pub member : l.second < parts

pub record NameFits (name : List ℕ) : Type 0 where
  pub good : good_name name ≡ true
  pub short : length name ≤ 15

-- tables and names that a computer may have
pub record InRange (t : Tabled) (n : Named) : Type 0 where
  pub cores : (1 ≤ t.cores) × (t.cores ≤ 4)
  pub few : (length t.partitions ≤ 16) × (length t.tasks ≤ 64) × (length t.links ≤ 120)
  pub partitions : AllByRecursion (λ p. Period p.period.0) t.partitions
  pub tasks : AllByRecursion (TaskFits (length t.partitions)) t.tasks
  pub crowd : (p : ℕ) → count_in p t.tasks ≤ 16
  pub links : AllByRecursion (LinkFits (length t.partitions)) t.links
  pub order : Rising t.links
  pub each_named : (length n.partitions ≡ length t.partitions) × (length n.tasks ≡ length t.tasks)
  pub names : AllByRecursion NameFits n.partitions × AllByRecursion NameFits n.tasks
