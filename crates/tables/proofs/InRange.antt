-- What is in range in a sound row. Assumes nothing.
use Rattle.std.proofs.Common.{◌≡◌, ℕ, zero, suc, ◌^◌, ◌<◌, ◌≤◌, Bool, true, not, ◌&&◌, leb, List, [], ◌∷◌, get_or, None, Option, arith}
use Rattle.std.proofs.lemmas.Bool.{leb-true, leb-false, and_parts, not-false}
use Rattle.std.specs.List.{list_all}
use Rattle.terms.specs.Checks.{within}
use Rattle.terms.specs.Units.{amount}
use Rattle.terms.specs.declared.numbers.Amount.{Amount}
use Rattle.terms.specs.declared.refusal.Refusal.{Refusal}
use Rattle.terms.specs.declared.refusal.Refusal.TheVariants.{FieldRange, RowPartition, PartitionFull}
use Rattle.tables.specs.declared.header.Header.{Header}
use Rattle.tables.specs.declared.model.Partition.{Partition}
use Rattle.tables.specs.declared.model.Task.{Task}
use Rattle.tables.specs.Kinds.{when}
use Rattle.tables.specs.RowKinds.{partition_kind, task_kind, task_in_range, count_in}
use Rattle.tables.specs.Contents.{header_in_range}
use Rattle.tables.specs.Ranges.{Period, execution_on, requests_on}
use Rattle.tables.proofs.Passed.{in_range}
use Rattle.tables.proofs.Walk.{none_when}

pub none_unless : (b : Bool) (f : Refusal) (q : Option Refusal) → when (not b) f q ≡ None → (b ≡ true) × (q ≡ None)
none_unless b f q e = let p = none_when (not b) f q e in (not-false b p.0, p.1)

all_within : {U : Type 0} (low high : ℕ) (xs : List (Amount U)) → list_all (λ x. within low high x.0) xs ≡ true → (q : ℕ) → (get_or xs q (amount 0)).0 ≤ high
all_within low high [] e q = omega arith
all_within low high (x ∷ xs) e zero = (in_range low high x.0 (and_parts _ _ e).0).1
all_within low high (x ∷ xs) e (suc q) = all_within low high xs (and_parts _ _ e).1 q

pub partition_kept : (o parts : ℕ) (before : List Partition) (p : Partition) → partition_kind.fault o parts before p ≡ None → Period p.period.0
partition_kept o parts before p e = in_range _ _ _ (none_unless (within 1000000000 10000000000000 p.period.0) _ _ e).0

-- a task among so many partitions
pub record TaskKept (parts : ℕ) (t : Task) : Type 0 where
  pub member : t.partition < parts
  pub due : Period t.period.0 × ((1 ≤ t.deadline.0) × (t.deadline.0 ≤ 10 ^ 13))
  pub job : (q : ℕ) → (execution_on t q ≤ 10 ^ 13) × (requests_on t q ≤ 10 ^ 6)

pub range_kept : (t : Task) → task_in_range t ≡ true → (Period t.period.0 × ((1 ≤ t.deadline.0) × (t.deadline.0 ≤ 10 ^ 13))) × ((q : ℕ) → (execution_on t q ≤ 10 ^ 13) × (requests_on t q ≤ 10 ^ 6))
range_kept t e =
    let times = list_all (λ x. within 1 10000000000000 x.0) t.execution in
    let counts = list_all (λ x. within 0 1000000 x.0) t.requests in
    let period = and_parts (within 1000000000 10000000000000 t.period.0) (within 1 10000000000000 t.deadline.0 && (times && counts)) e in
    let deadline = and_parts (within 1 10000000000000 t.deadline.0) (times && counts) period.1 in
    let jobs = and_parts times counts deadline.1 in
    ((in_range _ _ _ period.0, in_range _ _ _ deadline.0), λ q. (all_within 1 10000000000000 t.execution jobs.0 q, all_within 0 1000000 t.requests jobs.1 q))

pub task_kept : (o parts : ℕ) (before : List Task) (t : Task) → task_kind.fault o parts before t ≡ None → TaskKept parts t
task_kept o parts before t e =
    let full = when (leb 16 (count_in t.partition before)) (PartitionFull o) None in
    let range = none_unless (task_in_range t) (FieldRange o) (when (leb parts t.partition) (RowPartition o) full) e in
    let member = none_when (leb parts t.partition) (RowPartition o) full range.1 in
    let kept = range_kept t range.0 in
    record { member = leb-false parts t.partition member.0; due = kept.0; job = kept.1 }

-- the counts of a header
pub record Counts (h : Header) : Type 0 where
  pub cored : (1 ≤ h.cores) × (h.cores ≤ 4)
  pub partitions : h.partitions ≤ 16
  pub tasks : h.tasks ≤ 64
  pub links : h.links ≤ 120

pub counts : (h : Header) → header_in_range h ≡ true → Counts h
counts h e =
    let a = and_parts _ _ e in
    let b = and_parts _ _ a.1 in
    let c = and_parts _ _ b.1 in
    let d = and_parts _ _ c.1 in
    record { cored = (leb-true _ _ a.0, leb-true _ _ b.0); partitions = leb-true _ _ c.0; tasks = leb-true _ _ d.0; links = leb-true _ _ d.1 }
