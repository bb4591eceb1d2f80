use Rattle.std.proofs.Common.{◌≤◌, length, refl, subst, arith, take_all}
use Rattle.plan.specs.Born.{state_of}
use Rattle.plan.specs.History.{History, done}
use Rattle.plan.proofs.Rehearsals.{upto_more}
use Rattle.plan.proofs.rehearsal.rehearse.Goals as goal

pub loop-k-init : goal.loop-k-init
loop-k-init g c =
    let s = state_of c.in_ok-plan.plan in
    record {
      long = refl;
      each = λ j d below there. absurd (omega arith);
      rest = λ j h. refl;
      history = record { birth = s; born = c.in_ok-plan.ensures; runs = done s };
    }

pub loop-k-preserved : goal.loop-k-preserved
loop-k-preserved g c =
    let a = c.args.arbiter.now in
    let p = c.loop-k.plan in
    upto_more (g.B.Arbiter.bound a) (g.met.B.Arbiter.rises a) c.args.file.now c.args.changes.now c.args.log.now c.loop-k.k
    (state_of p) (state_of c.play.new.self) c.loop-k.log c.index-changes-k.result c.play.result
    (λ j h. omega (arith, (p.tables.due j h).0.0))
    (c.loop-k-test.true, c.index-changes-k.is) (omega (arith, c.loop-k.invariant.long)) c.loop-k.invariant c.play.ensures

pub returns : goal.returns
returns g c =
    let u = c.loop-k.invariant in
    let changes = c.args.changes.now in
    let all : length changes ≤ c.loop-k.k = c.loop-k-test.false in
    record {
      room = omega arith;
      long = u.long;
      each = λ k d at. u.each k d (omega (arith, at.0)) at;
      rest = λ k h. u.rest k (omega arith);
      final = subst (λ cs. History (g.B.Arbiter.bound c.args.arbiter.now) c.args.file.now cs (state_of c.loop-k.plan)) (take_all _ changes all) u.history;
    }
