use Rattle.std.proofs.Common.{◌≡◌, ◌*◌, ◌≤◌, length, take}
use Rattle.report.specs.Text.{lines}
use Rattle.report.proofs.listing.TimesText.length.Given as goal

abbrev pub invariant-loop-k : goal.invariant-loop-k
invariant-loop-k l = (l.needed ≡ length (lines 0 (take l.k l.times))) × (l.needed ≤ l.k * 57)
