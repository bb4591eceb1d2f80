-- The counts of a question that is not beyond. Assumes nothing.
use Rattle.std.specs.Prelude.{◌≡◌, ℕ, zero, suc, ◌^◌, ◌<◌, ◌≤◌, false}
use Rattle.std.proofs.Common.{arith}
use Rattle.std.proofs.lemmas.Bool.{or_parts, or_from, ltb-false, le-ltb}
use Rattle.arbiter.specs.Questions.{beyond, count}
use Rattle.arbiter.specs.declared.question.Question.{Question}

pub record Small (q : Question) : Type 0 where
  pub t : q.t.0 ≤ 10 ^ 13
  pub own : q.own.0 ≤ 10 ^ 12
  pub c0 : count q 0 ≤ 10 ^ 12
  pub c1 : count q 1 ≤ 10 ^ 12
  pub c2 : count q 2 ≤ 10 ^ 12
  pub c3 : count q 3 ≤ 10 ^ 12

pub small : (q : Question) → beyond q ≡ false → Small q
small q e =
    let p = or_parts _ _ e in
    let r = or_parts _ _ p.1 in
    let s = or_parts _ _ r.1 in
    let u = or_parts _ _ s.1 in
    let v = or_parts _ _ u.1 in
    record {
      t = ltb-false _ _ p.0;
      own = ltb-false _ _ r.0;
      c0 = ltb-false _ _ s.0;
      c1 = ltb-false _ _ u.0;
      c2 = ltb-false _ _ v.0;
      c3 = ltb-false _ _ v.1;
    }

pub from_small : (q : Question) → Small q → beyond q ≡ false
from_small q s =
    or_from _ _ (le-ltb (10 ^ 13) q.t.0 s.t)
    (or_from _ _ (le-ltb (10 ^ 12) q.own.0 s.own)
    (or_from _ _ (le-ltb (10 ^ 12) (count q 0) s.c0)
    (or_from _ _ (le-ltb (10 ^ 12) (count q 1) s.c1)
    (or_from _ _ (le-ltb (10 ^ 12) (count q 2) s.c2)
    (le-ltb (10 ^ 12) (count q 3) s.c3)))))

pub count_small : (q : Question) → beyond q ≡ false → (k : ℕ) → k < 4 → count q k ≤ 10 ^ 12
count_small q e zero h = (small q e).c0
count_small q e (suc zero) h = (small q e).c1
count_small q e (suc (suc zero)) h = (small q e).c2
count_small q e (suc (suc (suc zero))) h = (small q e).c3
count_small q e (suc (suc (suc (suc k)))) h = absurd (omega arith)
