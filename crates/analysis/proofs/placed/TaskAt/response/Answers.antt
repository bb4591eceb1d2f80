use Rattle.std.proofs.Common.{ℕ, ap, ◌∙◌}
use Rattle.analysis.specs.Demand.{State, state_of_placed}
use Rattle.analysis.specs.Examined.{demand_of}
use Rattle.analysis.proofs.Steps.{reached_start, reached_next}
use Rattle.analysis.proofs.placed.TaskAt.response.Goals as goal

pub loop-t-init : goal.loop-t-init
loop-t-init g c =
    let s : State = state_of_placed c.args.self.now.placed in
    reached_start (g.B.Arbiter.bound c.args.arbiter.now) s c.args.self.now.i c.in_ok-task.task c.in_ok-task.ensures c.start-t.result c.start-t.ensures

pub loop-t-preserved : goal.loop-t-preserved
loop-t-preserved g c =
    let s : State = state_of_placed c.args.self.now.placed in
    let a = c.args.arbiter.now in
    let bound = g.B.Arbiter.bound a in
    let e = c.in_ok-task.task in
    let next = c.get-next.ensures ∙ c.demanded.ensures ∙ ap (λ (t : ℕ). demand_of s.tasks e bound t) c.new.ensures in
    reached_next bound s c.args.self.now.i e c.in_ok-task.ensures c.loop-t.t c.get-next.result c.loop-t.invariant.0 next (g.met.B.Arbiter.rises a)
