-- The three kinds of row. Assumes nothing.
use Rattle.std.specs.Prelude.{ℕ, ◌-◌, Bool, true, not, ◌&&◌, ◌||◌, List, [], ◌∷◌, ◌++◌, map, length, None, ◌==◌, nat_le, nat_lt, slice_index_or}
use Rattle.std.specs.List.{list_all, count_by}
use Rattle.terms.specs.Checks.{within}
use Rattle.terms.specs.Units.{amount, Picos, Requests}
use Rattle.terms.specs.declared.refusal.Refusal.TheVariants.{FieldRange, RowPartition, LinkOrder, PartitionFull}
use Rattle.tables.specs.declared.model.Partition.{Partition}
use Rattle.tables.specs.declared.model.Task.{Task}
use Rattle.tables.specs.declared.model.Link.{Link}
use Rattle.tables.specs.Packed.{bits_at, pack, octets}
use Rattle.tables.specs.Handed.{is_partition_row, is_task_row, is_link_row}
use Rattle.tables.specs.Kinds.{Kind, good_name, when}

abbrev pub as_picos : ℕ → Picos
as_picos n = amount n

abbrev pub as_requests : ℕ → Requests
as_requests n = amount n

abbrev pub partition_widths : List ℕ
partition_widths = 44 ∷ 4 ∷ []

abbrev pub task_widths : List ℕ
task_widths = 4 ∷ 44 ∷ 44 ∷ 44 ∷ 44 ∷ 44 ∷ 44 ∷ 20 ∷ 20 ∷ 20 ∷ 20 ∷ 4 ∷ []

abbrev pub link_widths : List ℕ
link_widths = 4 ∷ 4 ∷ []

-- a partition: its period (44 bits), then the length of its name (4)
abbrev pub partition_kind : Kind Partition
partition_kind = record {
  width = 6;
  value = λ b. record { period = as_picos (bits_at 0 44 b) };
  fault = λ at parts before p. when (not (within 1000000000 10000000000000 p.period.0)) (FieldRange at) None;
  name_length = bits_at 44 4;
  name_ok = good_name;
  handed = is_partition_row;
  fixed = λ p n. octets 6 (pack partition_widths (p.period.0 ∷ n ∷ []));
}

-- a task: its partition (4), period (44), deadline (44), four execution times (44 each), four counts of requests (20 each), then the length of its name (4)
abbrev pub task_of : List ℕ → Task
task_of b = record {
  partition = bits_at 0 4 b;
  period = as_picos (bits_at 4 44 b);
  deadline = as_picos (bits_at 48 44 b);
  execution = as_picos (bits_at 92 44 b) ∷ as_picos (bits_at 136 44 b) ∷ as_picos (bits_at 180 44 b) ∷ as_picos (bits_at 224 44 b) ∷ [];
  requests = as_requests (bits_at 268 20 b) ∷ as_requests (bits_at 288 20 b) ∷ as_requests (bits_at 308 20 b) ∷ as_requests (bits_at 328 20 b) ∷ [];
}

abbrev pub task_in_range : Task → Bool
task_in_range t =
    within 1000000000 10000000000000 t.period.0
    && (within 1 10000000000000 t.deadline.0
    && (list_all (λ x. within 1 10000000000000 x.0) t.execution
    && list_all (λ x. within 0 1000000 x.0) t.requests))

-- how many of these tasks are of partition p
abbrev pub count_in : ℕ → List Task → ℕ
count_in p ts = count_by (λ t. t.partition == p) ts

-- the numbers of a task in the order of its fields
abbrev pub task_fields : Task → List ℕ
task_fields t = t.partition ∷ t.period.0 ∷ t.deadline.0 ∷ (map (λ x. x.0) t.execution ++ map (λ x. x.0) t.requests)

abbrev pub task_kind : Kind Task
task_kind = record {
  width = 44;
  value = task_of;
  fault = λ at parts before t.
      when (not (task_in_range t)) (FieldRange at)
      (when (nat_le parts t.partition) (RowPartition at)
      (when (nat_le 16 (count_in t.partition before)) (PartitionFull at) None));
  name_length = bits_at 348 4;
  name_ok = good_name;
  handed = is_task_row;
  fixed = λ t n. octets 44 (pack task_widths (task_fields t ++ n ∷ []));
}

-- the pair of m comes before that of l
abbrev pub comes_before : Link → Link → Bool
comes_before m l = nat_lt m.first l.first || (m.first == l.first && nat_lt m.second l.second)

abbrev pub no_link : Link
no_link = record { first = 0; second = 0 }

-- the last of these links, if there is one, comes before l
abbrev pub rises : List Link → Link → Bool
rises before l = length before == 0 || comes_before (slice_index_or before (length before - 1) no_link) l

-- a link: two partitions (4 each), and no name
abbrev pub link_kind : Kind Link
link_kind = record {
  width = 1;
  value = λ b. record { first = bits_at 0 4 b; second = bits_at 4 4 b };
  fault = λ at parts before l.
      when (nat_le parts l.first || nat_le parts l.second) (RowPartition at)
      (when (not (nat_lt l.first l.second && rises before l)) (LinkOrder at) None);
  name_length = λ b. 0;
  name_ok = λ name. true;
  handed = is_link_row;
  fixed = λ l n. octets 1 (pack link_widths (l.first ∷ l.second ∷ []));
}
