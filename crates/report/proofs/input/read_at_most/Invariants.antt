use Rattle.std.proofs.Common.{◌≤◌, length}
use Rattle.report.proofs.input.read_at_most.Given as goal

abbrev pub invariant-loop : goal.invariant-loop
invariant-loop l = l.at ≤ length l.out
