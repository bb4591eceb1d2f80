use Rattle.std.proofs.Common.{length, ap, rules}
use Rattle.analysis.specs.Demand.{State, state_of_placed}
use Rattle.analysis.specs.Times.{Shows}
use Rattle.analysis.proofs.Filling.{fills_told}
use Rattle.analysis.proofs.placed.Placed.times.Goals as goal

pub returns : goal.returns
returns g c =
    let s : State = state_of_placed c.args.self.now in
    fills_told _ (Shows (g.B.Arbiter.bound c.args.arbiter.now) s) _ _ (ap length c.tasks.ensures.is) (λ k v h e. search rules) _ _ _ c.fill.ensures
