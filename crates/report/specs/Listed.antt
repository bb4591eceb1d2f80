-- The times that a list of them holds. Assumes nothing.
use Rattle.std.specs.Prelude.{List, take}
use Rattle.terms.specs.Units.{Picos}
use Rattle.report.specs.declared.times.Times.{Times}

-- the entries that count
abbrev pub listed : Times → List Picos
listed x = take x.count x.entries
