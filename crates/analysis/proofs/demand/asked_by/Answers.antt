use Rattle.std.proofs.Common.{◌≡◌, ℕ, ◌+◌, List, length, subst, arith}
use Rattle.terms.specs.Cores.{number_of}
use Rattle.tables.specs.declared.model.Task.{Task}
use Rattle.analysis.proofs.Asking.{Asking, asking_aside, asking_ahead, asking_other, moved}
use Rattle.analysis.proofs.demand.asked_by.Goals as goal
use Rattle.analysis.proofs.demand.asked_by.Goals.{in-Ahead, in-Other, in-Aside}

pub loop-k-preserved : goal.loop-k-preserved
loop-k-preserved c =
    let tasks = c.tasks-tasks.result.now in
    let roles = c.args.roles.now.of in
    let p = number_of c.args.p in
    let t = c.args.t.t.0 in
    let k = c.loop-k.k in
    let e = c.loop-k.execution in
    let r = c.loop-k.requests in
    let o = c.loop-k.others in
    let inv = c.loop-k.invariant in
    elim c.match-at.branch [
      | in-Ahead w ↦
          let share = w.own_share-share in
          moved tasks roles p t (k + 1) _ _ _ _ _ _ w.execution-is w.requests-is w.others-is
          (asking_ahead tasks roles p t k e r o inv share.result.execution.0 share.result.requests.0 w.add_assign.new.self w.add_assign-in-Ahead.new.self w.in-Ahead.ensures
          share.ensures.execution share.ensures.requests w.add_assign.ensures.after w.add_assign-in-Ahead.ensures.after share.ensures.small.0 share.ensures.small.1)
      | in-Other w ↦
          moved tasks roles p t (k + 1) _ _ _ _ _ _ w.execution-is w.requests-is w.others-is
          (asking_other tasks roles p t k e r o inv w.in-Other.q w.other_share.result.0 w.from.result w.add_assign-in-Other.new.self w.in-Other.ensures w.from.ensures.0 w.from.ensures.1
          w.other_share.ensures.is w.add_assign-in-Other.ensures.after w.other_share.ensures.small)
      | in-Aside w ↦ moved tasks roles p t (k + 1) _ _ _ _ _ _ w.execution-is w.requests-is w.others-is (asking_aside tasks roles p t k e r o inv w.in-Aside.ensures)
    ]

pub returns-clause-others : goal.returns-clause-others
returns-clause-others c =
    let roles = c.args.roles.now.of in
    let p = number_of c.args.p in
    let t = c.args.t.t.0 in
    let all : c.loop-k.k ≡ length c.tasks-tasks.result.now = omega arith in
    let done = subst (λ (xs : List Task). Asking xs roles p t (length xs) c.loop-k.execution c.loop-k.requests c.loop-k.others) c.tasks-tasks.ensures.is
    (subst (λ (n : ℕ). Asking c.tasks-tasks.result.now roles p t n c.loop-k.execution c.loop-k.requests c.loop-k.others) all c.loop-k.invariant) in
    done.each
