use Rattle.std.proofs.Common.{Ok, Err, inl, inr}
use Rattle.terms.specs.Refusals.{told}
use Rattle.plan.specs.Born.{state_of}
use Rattle.report.proofs.Judging.{checked_answered, checked_refused}
use Rattle.report.proofs.checked.check_text.Goals as goal

pub returns-in-Ok-clause-checked : goal.returns-in-Ok-clause-checked
returns-in-Ok-clause-checked c =
    checked_answered c.args.file.now c.args.allocation.now c.args.out.now c.listing.result c.listing.new.out
    c.in-Ok.adopted.pile (Ok tt) (state_of c.in-Ok.adopted.plan) c.in-Ok.ensures c.listing.ensures.listed

pub returns-in-Err-clause-checked : goal.returns-in-Err-clause-checked
returns-in-Err-clause-checked c =
    elim c.in-Err.ensures [
      | inl refused ↦ checked_refused c.args.file.now c.args.allocation.now c.args.out.now c.write_refusal.result c.write_refusal.new.out (told c.in-Err.refusal) refused c.write_refusal.ensures.written
      | inr judged ↦ checked_answered c.args.file.now c.args.allocation.now c.args.out.now c.write_refusal.result c.write_refusal.new.out
          judged.0 (Err c.in-Err.refusal) judged.1 judged.2 c.write_refusal.ensures.written
    ]
