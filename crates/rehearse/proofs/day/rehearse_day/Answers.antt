use Rattle.std.proofs.Common.{List, [], ◌∷◌, length, replicate, Result, sym, ◌∙◌, subst}
use native.Mathlib.Nat.{min-eq_left}
use Rattle.terms.proofs.Handed.{handed_on}
use Rattle.arbiter.proofs.Making.{made_of}
use Rattle.arbiter.specs.Station.{OurPile}
use Rattle.terms.specs.Checks.{within, first_out}
use Rattle.terms.specs.Units.{Picos}
use Rattle.terms.specs.declared.refusal.Refusal.{Refusal}
use Rattle.tables.proofs.InRange.{counts}
use Rattle.tables.specs.Ranges.{no_time}
use Rattle.analysis.specs.Times.{Filled, Shows}
use Rattle.plan.specs.Born.{state_of}
use Rattle.report.specs.declared.times.Times.{Times}
use Rattle.report.specs.Checked.{pile_bound}
use Rattle.rehearse.specs.Day.{Day}
use Rattle.rehearse.proofs.day.rehearse_day.Goals as goal

pub returns-in_err-plan : goal.returns-in_err-plan
returns-in_err-plan c =
    let is = handed_on c.from_residual-in_err-plan.result _ c.from_residual-in_err-plan.ensures.1 in
    subst (λ (r : Result Times Refusal). Day c.args.file.now c.args.changes.now c.args.log.now r c.rehearse.new.log) (sym is)
    (record {
      header = c.header_of-header.result;
      read = c.header_of-header.ensures.is;
      pile = c.in_ok-pile.pile;
      ours = made_of (OurPile c.header_of-header.result.cores) (first_out 0 (within 1 4 c.header_of-header.result.cores ∷ [])) c.in_ok-pile.pile c.in_ok-pile.ensures;
      ends = c.in_err-plan.ensures;
    })

pub returns : goal.returns
returns c = record {
  header = c.header_of-header.result;
  read = c.header_of-header.ensures.is;
  pile = c.in_ok-pile.pile;
  ours = made_of (OurPile c.header_of-header.result.cores) (first_out 0 (within 1 4 c.header_of-header.result.cores ∷ [])) c.in_ok-pile.pile c.in_ok-pile.ensures;
  ends = record {
    z = state_of c.in_ok-plan.plan;
    rehearsed = c.in_ok-plan.ensures;
    shown =
        subst (λ (ts : List Picos). Filled (length (state_of c.in_ok-plan.plan).tasks) (Shows (pile_bound c.in_ok-pile.pile) (state_of c.in_ok-plan.plan)) (replicate 64 no_time) ts)
        (sym c.new.ensures.entries) c.in_ok-times.ensures.1;
    counted = c.new.ensures.count ∙ min-eq_left (counts c.header_of-header.result c.header_of-header.ensures.ranged).tasks;
  };
}
