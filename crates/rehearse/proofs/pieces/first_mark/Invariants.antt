use Rattle.std.proofs.Common.{◌≤◌, ◌==◌}
use Rattle.std.specs.List.{position_or_len}
use Rattle.rehearse.proofs.pieces.first_mark.Given as goal

abbrev pub invariant-loop-i : goal.invariant-loop-i
invariant-loop-i l = l.i ≤ position_or_len (λ byte. byte == l.mark) l.text
