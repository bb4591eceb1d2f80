use Rattle.std.proofs.Common.{take}
use Rattle.report.specs.Text.{Put, lines}
use Rattle.report.proofs.listing.TimesText.put.Given as goal

abbrev pub invariant-loop-k : goal.invariant-loop-k
invariant-loop-k l = Put (lines 0 (take l.k l.times)) l.initial.out l.at l.out
