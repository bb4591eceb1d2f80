use Rattle.std.proofs.Common.{Err, Result, sym, subst, inr}
use Rattle.terms.proofs.Handed.{handed_on}
use Rattle.terms.specs.declared.refusal.Refusal.{Refusal}
use Rattle.plan.specs.Born.{state_of}
use Rattle.report.specs.Checked.{Judgement}
use Rattle.report.specs.declared.judged.Adopted.{Adopted}
use Rattle.report.proofs.Judging.{judged}
use Rattle.report.proofs.checked.judge.Goals as goal

pub returns-in_err-adopt : goal.returns-in_err-adopt
returns-in_err-adopt c =
    let is = handed_on c.from_residual-in_err-adopt.result _ c.from_residual-in_err-adopt.ensures.1 in
    let j = judged c.args.file.now c.args.allocation.now (state_of c.in_ok-plan.plan) (state_of c.adopt.new.self) c.in_ok-pile.pile c.cores.result _ (Err c.in_err-adopt.field-0.0)
    c.in_ok-plan.ensures c.cores.ensures.is c.in_ok-pile.ensures c.in_err-adopt.ensures in
    subst (λ (r : Result Adopted Refusal). Judgement c.args.file.now c.args.allocation.now r) (sym is) (inr (c.in_ok-pile.pile, state_of c.adopt.new.self, j))
