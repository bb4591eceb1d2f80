use Rattle.std.proofs.Common.{not, rules, tests, ◌∙◌}
use Rattle.std.proofs.lemmas.Iterator.{YieldsList-from_slice}
use Rattle.std.proofs.lemmas.Iterator.Search.{position_from_yields_List}
use Rattle.terms.proofs.FirstOut.{first_failed}
use Rattle.terms.proofs.checks.first_failed.Goals as goal

pub returns : goal.returns
returns c =
    position_from_yields_List not _ _ _ c.position.ensures.ran (YieldsList-from_slice c.args.tests.now cc) (λ x b q k. search (rules, tests))
    ∙ first_failed c.args.tests.now
