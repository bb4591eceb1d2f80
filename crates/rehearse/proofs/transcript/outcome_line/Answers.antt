use Rattle.std.proofs.Common.{sym, ap, ◌∙◌}
use Rattle.std.proofs.lemmas.Result.{IfOk-weaker}
use Rattle.rehearse.specs.Transcript.{outcome_text}
use Rattle.rehearse.proofs.Lines.{outcome_pieces}
use Rattle.rehearse.proofs.transcript.outcome_line.Goals as goal

pub returns-in-Err : goal.returns-in-Err
returns-in-Err c =
    IfOk-weaker c.format-in-Err.result _ _
    (λ s h. h ∙ outcome_pieces c.args.line c.in-Err.refusal ∙ ap (outcome_text c.args.line) (sym c.in-Err.is))
    c.format-in-Err.ensures.ok
