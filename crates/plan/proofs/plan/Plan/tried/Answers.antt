use Rattle.std.proofs.Common.{◌≡◌, List, length, set, Option, Result, sym, ap, ◌∙◌, subst}
use Rattle.terms.specs.declared.cores.Core.{Core}
use Rattle.terms.specs.declared.refusal.Refusal.{Refusal}
use Rattle.terms.proofs.Handed.{handed_on}
use Rattle.terms.proofs.Numbering.{numbered_ok}
use Rattle.tables.specs.Tabled.{tabled}
use Rattle.analysis.specs.Demand.{state_of_placed}
use Rattle.plan.specs.Born.{state_of}
use Rattle.plan.specs.Trial.{trial_refusal, Tried}
use Rattle.plan.proofs.Retimings.{over}
use Rattle.plan.proofs.Trials.{put_back, tried, tried_on, trial_late, trial_done}
use Rattle.plan.proofs.plan.Plan.tried.Given as given
use Rattle.plan.proofs.plan.Plan.tried.Goals as goal
use Rattle.plan.proofs.plan.Plan.tried.Goals.{After-put}

-- what was examined: the copy of the tables, with the partition placed
examined : (g : given.Over) (c : After-put g) → over (tabled c.tables-tables.result.now) c.put.new.self.cores ≡ tried (state_of c.args.self.now) c.args.partition c.args.core
examined g c =
    tried_on (state_of c.args.self.now) c.args.partition c.args.core (tabled c.tables-tables.result.now) c.put.new.self.cores c.ok.result
    (ap tabled c.tables-tables.ensures ∙ c.copy_from.ensures) c.put.ensures (c.ok.ensures.value ∙ numbered_ok _ _ c.try_from.ensures)

-- the guard has put the partition back
restored : (g : given.Over) (c : After-put g) (after : List (Option Core)) → after ≡ set c.put.new.self.cores c.args.partition c.core_of-former.result → over (tabled c.args.self.now.tables) after ≡ state_of c.args.self.now
restored g c after back =
    let own = c.args.self.now in
    ap (λ q. over (tabled own.tables) q) (put_back own.placement.cores c.put.new.self.cores after c.args.partition c.ok.result c.core_of-former.result c.put.ensures c.core_of-former.ensures back)

pub returns-in_err-in_time-clause-trial : goal.returns-in_err-in_time-clause-trial
returns-in_err-in_time-clause-trial g c =
    let d = (goal.at.returns-in_err-in_time-clause-trial g c).After-put in
    let late = c.in_err-in_time.ensures in
    let same : state_of_placed c.new-placed.result ≡ tried (state_of c.args.self.now) c.args.partition c.args.core = rw (c.new-placed.ensures.0, c.new-placed.ensures.1) (examined g d) in
    record {
      stands = restored g d c.drop-guard.new.self.0.cores c.drop-guard.ensures;
      answer = subst (λ (r : Result (Unit {0}) Refusal). Tried (g.B.Arbiter.bound c.args.arbiter.now) (state_of c.args.self.now) c.args.partition c.args.core (trial_refusal (state_of c.args.self.now) c.args.partition c.args.core (length c.args.out.now)) c.args.out.now r c.args.out.now) (sym (handed_on _ _ c.from_residual.ensures.1)) (trial_late (state_of c.args.self.now) c.args.partition c.args.core (g.B.Arbiter.bound c.args.arbiter.now) c.args.out.now c.requires _ late.0 _ same late.1 late.2);
    }

pub returns-clause-trial : goal.returns-clause-trial
returns-clause-trial g c =
    let d = (goal.at.returns-clause-trial g c).After-put in
    let same : state_of_placed c.new-placed.result ≡ tried (state_of c.args.self.now) c.args.partition c.args.core = rw (c.new-placed.ensures.0, c.new-placed.ensures.1) (examined g d) in
    record {
      stands = restored g d c.drop-guard-2.new.self.0.cores c.drop-guard-2.ensures;
      answer = trial_done (state_of c.args.self.now) c.args.partition c.args.core (g.B.Arbiter.bound c.args.arbiter.now) c.args.out.now c.requires _ c.times.result c.times.new.out same c.in_ok-in_time.ensures c.times.ensures;
    }
