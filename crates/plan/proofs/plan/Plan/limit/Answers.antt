use Rattle.plan.proofs.plan.Plan.limit.Goals as goal

pub returns : goal.returns
returns c = c.limit_at.ensures c.args.self.now.placement
