use Rattle.std.proofs.Common.{refl}
use Rattle.report.proofs.WorkedTimes.{worked}
use Rattle.report.proofs.worked.worked_examples.Goals as goal

pub returns : goal.returns
returns c = record { count = refl; hold = worked }
