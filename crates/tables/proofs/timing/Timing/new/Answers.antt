use Rattle.std.proofs.Common.{sym}
use Rattle.tables.proofs.Passed.{period_in_range, deadline_in_range, job_in_range}
use Rattle.tables.proofs.timing.Timing.new.Goals as goal

pub invariant_of-result : goal.invariant_of-result
invariant_of-result c =
    let n = c.args.numbers in
    let passed = sym c.in-None.ensures in
    record { slow = period_in_range n passed; due = deadline_in_range n passed; job = job_in_range n passed }
