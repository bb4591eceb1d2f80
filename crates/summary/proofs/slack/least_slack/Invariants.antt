use Rattle.summary.specs.Slack.{Least}
use Rattle.summary.proofs.slack.least_slack.Given as goal

abbrev pub invariant-loop-k : goal.invariant-loop-k
invariant-loop-k l = Least l.tasks l.k l.least
