use Rattle.std.proofs.Common.{ℕ, ap, ◌∙◌, inl, inr, arith}
use Rattle.std.proofs.lemmas.Bool.{cases_lt}
use Rattle.analysis.specs.Demand.{State, state_of_placed}
use Rattle.analysis.specs.Examined.{Examines, demand_of}
use Rattle.analysis.proofs.Steps.{reached_start, reached_next, found_in_time}
use Rattle.analysis.proofs.placed.Placed.first_late.Goals as goal

pub steps-init : goal.steps-init
steps-init g c =
    let s : State = state_of_placed c.args.self.now in
    let x : Examines s _ c.in-Some.task = rw (c.at.ensures.0, c.at.ensures.1) at c.in-Some.ensures in
    reached_start (g.B.Arbiter.bound c.args.arbiter.now) s _ c.in-Some.task x c.start-t.result c.start-t.ensures

pub steps-preserved : goal.steps-preserved
steps-preserved g c =
    let s : State = state_of_placed c.args.self.now in
    let a = c.args.arbiter.now in
    let bound = g.B.Arbiter.bound a in
    let e = c.in-Some.task in
    let next = c.get-next.ensures ∙ c.demanded.ensures ∙ ap (λ (t : ℕ). demand_of s.tasks e bound t) c.new.ensures in
    let x : Examines s _ c.in-Some.task = rw (c.at.ensures.0, c.at.ensures.1) at c.in-Some.ensures in
    reached_next bound s _ e x c.steps.t c.get-next.result c.steps.invariant.0 next (g.met.B.Arbiter.rises a)

pub tasks-preserved : goal.tasks-preserved
tasks-preserved g c k h =
    let s : State = state_of_placed c.args.self.now in
    let bound = g.B.Arbiter.bound c.args.arbiter.now in
    let e = c.in-Some.task in
    let next = c.get-next.ensures ∙ c.demanded.ensures ∙ ap (λ (t : ℕ). demand_of s.tasks e bound t) c.new.ensures in
    let x : Examines s _ c.in-Some.task = rw (c.at.ensures.0, c.at.ensures.1) at c.in-Some.ensures in
    elim (cases_lt k c.tasks.i) [
      | inl before ↦ c.tasks.invariant k before
      | inr here ↦ found_in_time bound s _ e x c.steps.t c.steps.invariant.0 c.get-next.result k next c.if-next-t.true (omega arith) (omega arith)
    ]
