use Rattle.std.proofs.Common.{[], ◌∷◌, ◌++◌, vec_items, sym, ap, ◌∙◌, subst, arith}
use Rattle.std.proofs.lemmas.Result.{err_from_is_err_and}
use Rattle.tables.specs.Answers.{RefusedRows}
use Rattle.tables.proofs.Walk.{stepped, badly, at_err}
use Rattle.tables.proofs.first_bad.rows.Goals as goal

pub returns-in_err-row : goal.returns-in_err-row
returns-in_err-row g c =
    let p = err_from_is_err_and c.from_residual.result c.from_residual.ensures.1 in
    let told = c.in_err-row.ensures in
    record {
      file = told.file ∙ c.loop.invariant.0.same;
      cases = at_err _ _ p.0 p.1 (subst (RefusedRows g.R.Row.kind c.args.reader.now.file.now c.args.partitions c.args.count c.args.reader.now.at) (sym p.2) (badly _ _ _ _ _ _ _ _ _ _ _ _ c.loop-test.true c.loop.invariant.0 told.cases c.as_slice.ensures.value));
    }

pub loop-preserved : goal.loop-preserved
loop-preserved g c =
    let told = c.in_ok-row.ensures in
    let pushed = c.push_reserved.ensures.items in (
      stepped _ _ _ _ _ _ _ _ _ _ _ _ _ _ c.loop-test.true c.loop.invariant.0 told.cases c.as_slice.ensures.value told.file
          (pushed ∙ ap (λ x. vec_items c.loop.out ++ x ∷ []) (c.value.ensures ∙ ap g.R.Row.kind.value c.fixed.ensures)),
      omega arith,
      omega arith,
    )
