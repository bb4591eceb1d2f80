-- How large the waits between banks are at most. Assumes nothing.
use Rattle.std.proofs.Common.{◌≡◌, ℕ, zero, suc, ◌/◌, ◌%◌, min, refl, div-add-mod', mod-lt, ◌+◌, ◌-◌, ◌*◌, ◌^◌, ◌<◌, ◌≤◌, false, mul-le-mul, arith}
use Rattle.std.proofs.lemmas.Nat.{div_below, div-mul-add}
use Rattle.std.specs.Int.{div_ceil}
use Rattle.arbiter.specs.Banks.{inter, between}
use Rattle.terms.specs.Sums.{sum_where}
use Rattle.arbiter.specs.Cores.{sum_sharing}
use Rattle.arbiter.specs.Questions.{beyond, count, apart, shares}
use Rattle.arbiter.specs.Bounds.{wait}
use Rattle.arbiter.specs.Refreshes.{rounds, refreshes}
use Rattle.arbiter.specs.declared.banks.Banks.{Banks}
use Rattle.arbiter.specs.declared.question.Question.{Question}
use Rattle.arbiter.specs.declared.question.Sharing.{Sharing}
use Rattle.arbiter.specs.declared.request_driven.RequestDriven.{RequestDriven}
use Rattle.arbiter.specs.Counts.{small, count_small}
use Rattle.terms.proofs.Sums.{sum_le}

-- one core's requests, at one delay
pub product_le : (x : Question) (delay k : ℕ) → beyond x ≡ false → delay ≤ 100000 → k < 4 → count x k * delay ≤ 10 ^ 17
product_le x delay k e short below = mul-le-mul (count_small x e k below) short

pub inter_le : (b : Banks) (s : Sharing) (p : ℕ) → inter b s p ≤ 400000
inter_le b s p =
    let most = sum_le (apart s p) (λ _. b.l.0) 100000 b.cores (λ _ _. b.short) in
    let four = b.four in
    omega arith

pub conflicts_le : (b : Banks) (s : Sharing) (p k : ℕ) → sum_sharing k s p (λ q. b.conflict.0 + inter b s q) ≤ k * 500000
conflicts_le b s p k = sum_le (shares s p) (λ q. b.conflict.0 + inter b s q) 500000 k (λ q _. let i = inter_le b s q in let brief = b.brief in omega arith)

pub wait_le : (a : RequestDriven) (s : Sharing) (p : ℕ) → wait a s p ≤ 2500000
wait_le a s p =
    let i = inter_le a.banks s p in
    let c = conflicts_le a.banks s p a.banks.cores in
    let four = a.banks.four in
    let quick = a.quick in
    omega arith

-- all that a core's own requests wait
pub own_wait_le : (a : RequestDriven) (x : Question) (p w : ℕ) → w ≡ wait a x.sharing p → beyond x ≡ false → x.own.0 * w ≤ 25 * 10 ^ 17
own_wait_le a x p w is e =
    let short : w ≤ 2500000 = omega (arith, wait_le a x.sharing p) in
    mul-le-mul (small x e).own short

module _ (b : Banks) (x : Question) where
  pub partial_le : (p k : ℕ) → beyond x ≡ false → k ≤ 4 → sum_where k (apart x.sharing p) (λ q. count x q * b.l.0) ≤ k * 10 ^ 17
  partial_le p k e h = sum_le (apart x.sharing p) (λ q. count x q * b.l.0) (10 ^ 17) k (λ q below. product_le x b.l.0 q e b.short (omega arith))

  pub between_le : (p : ℕ) → beyond x ≡ false → between b x p ≤ 4 * 10 ^ 17
  between_le p e = let most = partial_le p b.cores e b.four in let four = b.four in omega arith

  pub rows_le : (p k : ℕ) → beyond x ≡ false → k ≤ 4 → sum_sharing k x.sharing p (λ q. count x q * b.conflict.0 + between b x q) ≤ k * (5 * 10 ^ 17)
  rows_le p k e h =
      sum_le (shares x.sharing p) (λ q. count x q * b.conflict.0 + between b x q) (5 * 10 ^ 17) k
      (λ q below. let row = product_le x b.conflict.0 q e b.brief (omega arith) in let bank = between_le q e in omega arith)

pub refreshes_le : (interval span t : ℕ) → 10 ^ 6 ≤ interval → span ≤ 10 ^ 6 → t ≤ 10 ^ 13 → refreshes interval span t ≤ 2 * 10 ^ 13
refreshes_le interval span t often brief short =
    let few : rounds t interval < 2 * 10 ^ 7 = div_below (t + (interval - 1)) interval (2 * 10 ^ 7) (omega arith) (omega arith) in
    let some : rounds t interval ≤ 2 * 10 ^ 7 = omega arith in
    mul-le-mul some brief

-- how many refreshes a time meets, as `div_ceil` gives it
pub rounds_ceil : (t interval : ℕ) → 0 < interval → div_ceil t interval ≡ rounds t interval
rounds_ceil t interval some = go (t % interval) refl
  where
    go : (r : ℕ) → t % interval ≡ r → t / interval + min 1 r ≡ rounds t interval
    go zero e =
        let whole = div-mul-add (t / interval) interval (interval - 1) (omega arith) in
        let is : t / interval * interval + (interval - 1) ≡ t + (interval - 1) = omega (arith, div-add-mod' t interval) in
        omega (arith, rw is at whole)
    go (suc r) e =
        let short = mod-lt t some in
        let whole = div-mul-add (t / interval + 1) interval r (omega arith) in
        let is : (t / interval + 1) * interval + r ≡ t + (interval - 1) = grind (arith, div-add-mod' t interval) in
        omega (arith, rw is at whole)
