use Rattle.std.proofs.Common.{not, rules, tests, ◌∙◌}
use Rattle.std.proofs.lemmas.Iterator.{YieldsList-from_slice}
use Rattle.std.proofs.lemmas.Iterator.Search.{position_from_yields_List}
use Rattle.terms.proofs.FirstOut.{first_tested}
use Rattle.plan.specs.Adoption.{names_core}
use Rattle.plan.proofs.adoption.first_unknown.Goals as goal

pub returns : goal.returns
returns c =
    position_from_yields_List (λ e. not (names_core c.args.cores e)) _ _ _ c.position.ensures.ran (YieldsList-from_slice c.args.entries.now cc) (λ x b q k. search (rules, tests))
    ∙ first_tested (names_core c.args.cores) c.args.entries.now
