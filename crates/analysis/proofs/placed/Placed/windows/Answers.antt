use Rattle.std.proofs.Common.{length, ap, rules}
use Rattle.analysis.specs.Demand.{State, state_of_placed}
use Rattle.analysis.specs.Windows.{Window}
use Rattle.analysis.proofs.Filling.{fills_told}
use Rattle.analysis.proofs.placed.Placed.windows.Goals as goal

pub returns : goal.returns
returns g c =
    let s : State = state_of_placed c.args.self.now in
    fills_told _ (Window (g.B.Arbiter.bound c.args.arbiter.now) s) _ _ (ap length c.partitions.ensures.is) (λ k v h e. search rules) _ _ _ c.fill.ensures
