-- The worked examples, each with its times from below. Assumes nothing.
use Rattle.std.proofs.Common.{ℕ, zero, suc, true, false, refl, arith, lit<, lit≤}
use Rattle.terms.specs.declared.cores.Core.TheVariants.{Zero, One}
use Rattle.tables.specs.RowKinds.{as_picos}
use Rattle.analysis.specs.Demand.{State}
use Rattle.analysis.specs.Times.{demand_on, TimeIs, LateAt, InTime, AllInTime}
use Rattle.analysis.proofs.Least.{Under}
use Rattle.analysis.proofs.Rise.{Rises}
use Rattle.report.proofs.FromBelow.{starts, steps, found, found_in_time, passed_late}
use Rattle.report.specs.Worked.{Worked, asked, pairs, ms, takes, one_core, two_cores, JustInTime, JustLate, LeastOfTwo, BothWait}
use Rattle.report.proofs.WorkedBounds.{our_bound, request_is, job_is, under_ours, our_piles, once, twice}

module _ (rises : Rises (our_bound 1)) (deadline : ℕ) where
  abbrev due : State
  due = one_core (ms 3) (ms 8) deadline

  first_under : Under (demand_on (our_bound 1) due 0 Zero) (ms 3)
  first_under = starts (our_bound 1) due 0 Zero (ms 3) refl

  first_takes : TimeIs (our_bound 1) due 0 (takes (ms 3))
  first_takes = found (our_bound 1) due 0 Zero refl (ms 3) first_under (as_picos (ms 3)) refl refl (lit≤ tt)

  first_in_time : InTime (our_bound 1) due 0
  first_in_time = found_in_time (our_bound 1) due 0 Zero refl (ms 3) first_under refl (lit≤ tt)

  -- 8, 11, 14
  second_under : Under (demand_on (our_bound 1) due 1 Zero) (ms 14)
  second_under =
      steps (our_bound 1) due 1 Zero rises (ms 11) (ms 14) refl
      (steps (our_bound 1) due 1 Zero rises (ms 8) (ms 11) refl
      (starts (our_bound 1) due 1 Zero (ms 8) refl))

second_takes : Rises (our_bound 1) → TimeIs (our_bound 1) (one_core (ms 3) (ms 8) (ms 14)) 1 (takes (ms 14))
second_takes rises =
    found (our_bound 1) (one_core (ms 3) (ms 8) (ms 14)) 1 Zero refl (ms 14) (second_under rises (ms 14)) (as_picos (ms 14)) refl refl (lit≤ tt)

second_late : Rises (our_bound 1) → LateAt (our_bound 1) (one_core (ms 3) (ms 8) (ms 13)) 1
second_late rises =
    passed_late (our_bound 1) (one_core (ms 3) (ms 8) (ms 13)) 1 Zero refl (ms 14) (second_under rises (ms 13)) (lit< tt)

before_second : Rises (our_bound 1) → AllInTime (our_bound 1) (one_core (ms 3) (ms 8) (ms 13)) 1
before_second rises zero h = first_in_time rises (ms 13)
before_second rises (suc i) h = absurd (omega arith)

-- 5, 10
equal_takes : Rises (our_bound 1) → TimeIs (our_bound 1) (one_core (ms 5) (ms 5) (ms 20)) 1 (takes (ms 10))
equal_takes rises =
    let s = one_core (ms 5) (ms 5) (ms 20) in
    found (our_bound 1) s 1 Zero refl (ms 10)
    (steps (our_bound 1) s 1 Zero rises (ms 5) (ms 10) refl (starts (our_bound 1) s 1 Zero (ms 5) refl))
    (as_picos (ms 10)) refl refl (lit≤ tt)

-- its execution time, then that with the wait
waits_first : Rises (our_bound 2) → TimeIs (our_bound 2) two_cores 0 (takes 4053750000)
waits_first rises =
    found (our_bound 2) two_cores 0 Zero refl 4053750000
    (steps (our_bound 2) two_cores 0 Zero rises (ms 4) 4053750000 refl (starts (our_bound 2) two_cores 0 Zero (ms 4) refl))
    (as_picos 4053750000) refl refl (lit≤ tt)

waits_second : Rises (our_bound 2) → TimeIs (our_bound 2) two_cores 1 (takes 1048750000)
waits_second rises =
    found (our_bound 2) two_cores 1 One refl 1048750000
    (steps (our_bound 2) two_cores 1 One rises (ms 1) 1048750000 refl (starts (our_bound 2) two_cores 1 One (ms 1) refl))
    (as_picos 1048750000) refl refl (lit≤ tt)

pub worked : Worked
worked = record {
  core_alone = refl;
  partition_read = refl;
  period_refused = refl;
  piles = our_piles;
  none_shared = λ a o. request_is 3 a o (asked 1 0 0 (pairs false false));
  two_shared = λ a o. request_is 3 a o (asked 1 0 0 (pairs true true));
  one_shared = λ a o. request_is 3 a o (asked 1 0 0 (pairs true false));
  by_jobs = λ a o. job_is 3 a o (asked 0 100 40 (pairs true false));
  one_refresh = once;
  two_refreshes = twice;
  in_time = under_ours 1 JustInTime (λ rises. (first_takes rises (ms 14), second_takes rises));
  late = under_ours 1 JustLate (λ rises. (first_takes rises (ms 13), (lit< tt, second_late rises, before_second rises)));
  least = under_ours 1 LeastOfTwo (λ rises. (equal_takes rises, refl));
  waiting = under_ours 2 BothWait (λ rises. (waits_first rises, waits_second rises));
}
