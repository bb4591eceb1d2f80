use Rattle.std.proofs.Common.{◌≡◌, ◌≤◌, vec_items, vec_len, vec_capacity}
use Rattle.tables.proofs.Walk.{Sofar}
use Rattle.tables.proofs.first_bad.rows.Given as goal

abbrev pub invariant-loop : goal.invariant-loop
invariant-loop g l = Sofar g.R.Row.kind l.initial.reader.file.now l.partitions l.count l.initial.reader.at l.counter l.reader.file.now l.reader.at (vec_items l.out) × (vec_len l.out ≡ l.counter) × (l.count ≤ vec_capacity l.out)
