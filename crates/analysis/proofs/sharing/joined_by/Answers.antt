use Rattle.std.proofs.Common.{sym, ap, ◌∙◌, rules}
use Rattle.terms.specs.Cores.{number_of}
use Rattle.arbiter.specs.Questions.{joined}
use Rattle.analysis.proofs.Joins.{sharing_joined, sharing_passed, zip_both, zip_first, zip_second}
use Rattle.analysis.proofs.sharing.joined_by.Goals as goal
use Rattle.analysis.proofs.sharing.joined_by.Goals.{in-Some+in-Some-core_of, in_default, in_default-via-in-None-1, in_default-via-in-Some+in-None-1}

pub loop-link-preserved : goal.loop-link-preserved
loop-link-preserved c =
    let cores = c.args.placement.now.cores in
    let links = c.args.links.now in
    let k = c.loop-link.link-index in
    elim c.match-core_of.branch [
      | in-Some+in-Some-core_of w ↦
          w.sharing-is ∙ w.join.ensures ∙ ap (λ s. joined s (number_of w.in-Some.a) (number_of w.in-Some-core_of.b)) c.loop-link.invariant
          ∙ sym (sharing_joined cores links k c.loop-link-test.true w.in-Some.a w.in-Some-core_of.b (zip_both _ _ _ _ (sym c.core_of.ensures ∙ w.in-Some.is) (sym w.core_of-in-loop-link.ensures ∙ w.in-Some-core_of.is)))
      | in_default w ↦
          w.sharing-is ∙ c.loop-link.invariant
          ∙ sym (sharing_passed cores links k c.loop-link-test.true (elim w.in_default.branch [
            | in_default-via-in-None-1 v ↦ zip_first _ _ (sym c.core_of.ensures ∙ search rules)
            | in_default-via-in-Some+in-None-1 v ↦ zip_second _ _ (sym v.core_of-in-loop-link.ensures ∙ search rules)
          ]))
    ]
