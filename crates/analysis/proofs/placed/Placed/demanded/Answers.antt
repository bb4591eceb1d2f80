use Rattle.std.proofs.Common.{◌+◌, vec_items, ap, ◌∙◌}
use Rattle.terms.specs.Cores.{number_of}
use Rattle.tables.specs.Ranges.{execution_on, requests_on}
use Rattle.analysis.specs.Roles.{all_ahead, all_on}
use Rattle.analysis.proofs.Asked.{same_question}
use Rattle.analysis.proofs.placed.Placed.demanded.Goals as goal

pub returns : goal.returns
returns g c =
    let e = c.args.task.now in
    let t = c.args.t.t in
    let tasks = vec_items c.args.self.now.tables.now.tasks in
    let roles = e.roles.of in
    let p = number_of e.core in
    let bound = g.B.Arbiter.bound c.args.arbiter.now in
    let asked = c.asked_by-asked.ensures in
    let own = c.add-own.ensures ∙ ap (λ n. e.requests.0 + n) asked.requests in
    let same = ap bound (same_question e.core t c.add-own.result c.asked_by-asked.result.others e.sharing (e.requests.0 + all_ahead tasks roles (λ x. requests_on x p) t.0) (λ q. all_on tasks roles q t.0) own asked.four asked.others) in
    let load = c.add.ensures ∙ ap (λ n. e.execution.0 + n) asked.execution in
    c.add-2.ensures ∙ ap (λ n. n + c.answer.result.0) load ∙ ap (λ n. e.execution.0 + all_ahead tasks roles (λ x. execution_on x p) t.0 + n) (c.answer.ensures ∙ same)
