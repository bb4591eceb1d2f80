use Rattle.std.proofs.Common.{◌≡◌, ◌<◌, Bool, ◌&&◌, eqb, ltb, List, length, get_or, set, Option, ap, ◌∙◌, arith, length-set, get_or-set_other, get_or-set_same, below_more}
use Rattle.terms.specs.declared.cores.Core.{Core}
use Rattle.tables.specs.Ranges.{no_task}
use Rattle.tables.specs.declared.model.Task.{Task}
use Rattle.analysis.specs.Demand.{State, state_of_placed}
use Rattle.analysis.specs.Placed.{core_at}
use Rattle.analysis.specs.Roles.{part, role}
use Rattle.analysis.specs.declared.role.Role.TheVariants.{Aside}
use Rattle.analysis.proofs.placed.TaskAt.roles.Goals as goal

pub loop-k-preserved : goal.loop-k-preserved
loop-k-preserved c =
    let s : State = state_of_placed c.args.self.now.placed in
    let i = c.args.self.now.i in
    let p = c.args.p in
    let of = c.loop-k.of in
    let k = c.loop-k.k in
    let v = c.role_of.result in
    let inv = c.loop-k.invariant in
    let within : k < length of = omega (arith, inv.1, c.tasks-tasks.ensures.sound.few) in
    let ahead : List Task → Bool = λ xs. ltb k i && eqb (get_or xs k no_task).partition (get_or xs i no_task).partition in
    let is = c.role_of.ensures ∙ ap (λ (o : Option Core). part (ahead c.tasks-tasks.result.now) p o) c.core_of.ensures
    ∙ ap (λ (xs : List Task). part (ahead xs) p (core_at s.placement (get_or xs k no_task).partition)) c.tasks-tasks.ensures.is in (
      below_more (λ j. get_or (set of k v) j Aside ≡ role s i p j) k
          (λ j h. get_or-set_other of k j v Aside (omega arith) ∙ inv.0 j h)
          (get_or-set_same of k v Aside within ∙ is),
      length-set of k v ∙ inv.1,
    )
