use Rattle.std.proofs.Common.{length, ap, arith}
use Rattle.analysis.proofs.times.limit_at.Goals as goal

pub returns-then-i-tasks : goal.returns-then-i-tasks
returns-then-i-tasks c q = (omega (arith, ap length c.tasks.ensures.is), c.limit_of.ensures.is q)
