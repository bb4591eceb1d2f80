use Rattle.std.proofs.Common.{get_or, set, ap, ◌∙◌}
use Rattle.terms.specs.Cores.{numbered}
use Rattle.terms.proofs.Numbering.{numbered_ok}
use Rattle.plan.proofs.Allocations.{laid_more}
use Rattle.plan.proofs.adoption.placement_of.Goals as goal

pub loop-i-preserved : goal.loop-i-preserved
loop-i-preserved c =
    c.put.ensures ∙ ap (λ o. set c.loop-i.next.cores c.loop-i.i o) (c.ok.ensures.value ∙ numbered_ok _ _ c.try_from.ensures ∙ ap numbered c.from.ensures)
    ∙ ap (λ xs. set xs c.loop-i.i (numbered (get_or c.args.entries.now c.loop-i.i 0))) c.loop-i.invariant
    ∙ laid_more c.args.entries.now c.loop-i.i c.loop-i-test.true c.requires
