-- That the bounds rise. Assumes nothing.
use Rattle.std.specs.Prelude.{◌≡◌, ℕ, ◌+◌, ◌-◌, ◌*◌, ◌<◌, ◌≤◌, min, Bool, true, false, cond, ◌||◌, leb, nat_le, refl}
use Rattle.std.proofs.Common.{ap, ◌∙◌, mul-le-mul_right, div-mul-le_self, arith}
use Rattle.terms.specs.Cores.{number_of}
use Rattle.std.proofs.lemmas.Bool.{or_parts, or_from, true≢false}
use Rattle.std.proofs.lemmas.Nat.{le-div}
use Rattle.arbiter.specs.Banks.{between}
use Rattle.arbiter.specs.Bounds.{wait, request_bound, job_wait, job_bound}
use Rattle.arbiter.specs.Questions.{NoMore, beyond, count, apart, shares, ceiling}
use Rattle.arbiter.specs.Refreshes.{rounds, refreshes}
use Rattle.arbiter.specs.Settled.{settled}
use Rattle.arbiter.specs.declared.banks.Banks.{Banks}
use Rattle.arbiter.specs.declared.job_driven.JobDriven.{JobDriven}
use Rattle.arbiter.specs.declared.question.Question.{Question}
use Rattle.arbiter.specs.declared.request_driven.RequestDriven.{RequestDriven}
use Rattle.arbiter.specs.Counts.{small, from_small}
use Rattle.terms.proofs.Sums.{sum_rises}

-- what asks for no more than a question that is not beyond is not beyond
pub not_beyond : (x y : Question) → NoMore x y → beyond y ≡ false → beyond x ≡ false
not_beyond x y h e =
    let s = small y e in
    from_small x record {
      t = omega arith;
      own = omega arith;
      c0 = omega (arith, h.others 0 (omega arith));
      c1 = omega (arith, h.others 1 (omega arith));
      c2 = omega (arith, h.others 2 (omega arith));
      c3 = omega (arith, h.others 3 (omega arith));
    }

cut_rises : (b c : Bool) (v w top : ℕ) → (c ≡ false → b ≡ false) → v ≤ w → cond b top (min v top) ≤ cond c top (min w top)
cut_rises true true v w top f h = omega arith
cut_rises true false v w top f h = absurd (true≢false (f refl))
cut_rises false true v w top f h = omega arith
cut_rises false false v w top f h = omega arith

pub settled_rises : (n : ℕ) (x y : Question) (v w : ℕ) → NoMore x y → v ≤ w → settled n x v ≤ settled n y w
settled_rises n x y v w h le =
    cut_rises (nat_le n (number_of x.core) || beyond x) (nat_le n (number_of y.core) || beyond y) v w ceiling
    (λ e. let p = or_parts (nat_le n (number_of y.core)) (beyond y) e in or_from _ _ (ap (λ p. leb n (number_of p)) h.core ∙ p.0) (not_beyond x y h p.1))
    le

pub request_rises : (a : RequestDriven) (x y : Question) → NoMore x y → request_bound a x ≤ request_bound a y
request_rises a x y h =
    settled_rises a.banks.cores x y _ _ h (rw (h.core, h.sharing) (mul-le-mul_right (wait a y.sharing (number_of y.core)) h.own))

pub between_rises : (b : Banks) (x y : Question) (p : ℕ) → NoMore x y → between b x p ≤ between b y p
between_rises b x y p h =
    let four = b.four in
    sum_rises (apart x.sharing p) (apart y.sharing p) (λ q. count x q * b.l.0) (λ q. count y q * b.l.0) b.cores
    (ap (λ s. apart s p) h.sharing) (λ q below. mul-le-mul_right b.l.0 (h.others q (omega arith)))

-- what a core that shares adds
abbrev row : Banks → Question → ℕ → ℕ
row b x q = count x q * b.conflict.0 + between b x q

row_rises : (b : Banks) (x y : Question) (q : ℕ) → NoMore x y → q < 4 → row b x q ≤ row b y q
row_rises b x y q h below =
    let rows = mul-le-mul_right b.conflict.0 (h.others q below) in
    let banks = between_rises b x y q h in
    omega arith

job_wait_rises : (a : JobDriven) (x y : Question) (p : ℕ) → NoMore x y → job_wait a x p ≤ job_wait a y p
job_wait_rises a x y p h =
    let b = a.banks in
    let four = b.four in
    let rows =
    sum_rises (shares x.sharing p) (shares y.sharing p) (row b x) (row b y) b.cores
    (ap (λ s. shares s p) h.sharing) (λ q below. row_rises b x y q h (omega arith)) in
    let banks = between_rises b x y p h in
    omega arith

pub job_rises : (a : JobDriven) (x y : Question) → NoMore x y → job_bound a x ≤ job_bound a y
job_rises a x y h = settled_rises a.banks.cores x y _ _ h (rw h.core (job_wait_rises a x y (number_of y.core) h))

pub rounds_rise : (t u interval : ℕ) → 0 < interval → t ≤ u → rounds t interval ≤ rounds u interval
rounds_rise t u interval pos h =
    let whole = div-mul-le_self (t + (interval - 1)) interval in
    le-div _ (u + (interval - 1)) interval pos (omega arith)

pub refreshes_rise : (interval span t u : ℕ) → 0 < interval → t ≤ u → refreshes interval span t ≤ refreshes interval span u
refreshes_rise interval span t u pos h = mul-le-mul_right span (rounds_rise t u interval pos h)
