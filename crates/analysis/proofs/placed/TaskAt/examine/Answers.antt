use Rattle.std.proofs.Common.{◌≡◌, ◌<◌, length, Some, sym, ap, ◌∙◌, arith}
use Rattle.terms.specs.Cores.{number_of}
use Rattle.tables.specs.Ranges.{execution_on, requests_on}
use Rattle.tables.specs.declared.model.Task.{Task}
use Rattle.analysis.specs.Demand.{State, state_of_placed, place}
use Rattle.analysis.specs.Placed.{core_at}
use Rattle.analysis.proofs.Roles.{same_demand}
use Rattle.analysis.proofs.placed.TaskAt.examine.Goals as goal

pub returns : goal.returns
returns c =
    let s : State = state_of_placed c.args.self.now.placed in
    let i = c.args.self.now.i in
    let p = c.in_ok-core.core in
    let read = c.task_of-x.ensures.is in
    let at : place s i ≡ Some p = sym (c.in_ok-core.ensures ∙ ap (λ (x : Task). core_at s.placement x.partition) read) in
    let cost = c.job-job.ensures.execution ∙ ap (λ (x : Task). execution_on x (number_of p)) read in
    let count = c.job-job.ensures.requests ∙ ap (λ (x : Task). requests_on x (number_of p)) read in
    let within : i < length s.tasks = omega (arith, c.args.self.now.there, c.args.self.now.placed.tables.now.tasks.ok.0) in
    record {
      core = at;
      start = cost;
      limit = c.limit_of.ensures.is c.args.self.now.placed.placement.now;
      demand = λ bound t. same_demand s i p at c.roles.result.of c.roles.ensures within t bound _ _ c.args.self.now.placed.sharing cost count c.args.self.now.placed.shared;
    }
