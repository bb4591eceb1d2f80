use Rattle.std.proofs.Common.{ℕ, ◌<◌, get_or}
use Rattle.tables.specs.Ranges.{no_time}
use Rattle.analysis.proofs.buffer.fill.Given as goal

abbrev pub invariant-loop-k : goal.invariant-loop-k
invariant-loop-k g l = (j : ℕ) → j < l.k → goal.F-post g l.entry j (get_or l.place-items j no_time)
