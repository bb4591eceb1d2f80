-- Laws of the sum. Assumes nothing.
use Rattle.std.proofs.Common.{◌≡◌, ℕ, zero, suc, ◌+◌, ◌*◌, ◌<◌, ◌≤◌, Bool, true, false, cond, sym, ap, ◌∙◌, add-zero, add-one, arith}
use Rattle.terms.specs.Sums.{sum_where}

-- what one core adds
abbrev pub part : Bool → ℕ → ℕ
part b x = cond b x 0

pub part_mono : (b : Bool) (x y : ℕ) → x ≤ y → part b x ≤ part b y
part_mono true x y h = h
part_mono false x y h = omega arith

pub part_le : (b : Bool) (x : ℕ) → part b x ≤ x
part_le true x = omega arith
part_le false x = omega arith

module _ (test : ℕ → Bool) where
  pub sum_yes : (f : ℕ → ℕ) (k : ℕ) → test k ≡ true → sum_where (k + 1) test f ≡ sum_where k test f + f k
  sum_yes f k e = rw add-one (ap (λ b. sum_where k test f + cond b (f k) 0) e)

  pub sum_no : (f : ℕ → ℕ) (k : ℕ) → test k ≡ false → sum_where (k + 1) test f ≡ sum_where k test f
  sum_no f k e = rw add-one (ap (λ b. sum_where k test f + cond b (f k) 0) e ∙ add-zero (sum_where k test f))

  -- the sum rises with what is summed
  pub sum_mono : (f g : ℕ → ℕ) (n : ℕ) → ((k : ℕ) → k < n → f k ≤ g k) → sum_where n test f ≤ sum_where n test g
  sum_mono f g zero h = omega arith
  sum_mono f g (suc n) h = omega (arith, sum_mono f g n (λ k below. h k (omega arith)), part_mono (test n) (f n) (g n) (h n (omega arith)))

  -- n terms of at most m
  pub sum_le : (f : ℕ → ℕ) (m n : ℕ) → ((k : ℕ) → k < n → f k ≤ m) → sum_where n test f ≤ n * m
  sum_le f m zero h = omega arith
  sum_le f m (suc n) h = omega (arith, sum_le f m n (λ k below. h k (omega arith)), part_le (test n) (f n), h n (omega arith))

  -- a turn of a loop that sums: the core passes, and its part is added, or it does not
  pub sum_took : (f : ℕ → ℕ) (k s x z : ℕ) → s ≡ sum_where k test f → x ≡ f k → test k ≡ true → z ≡ s + x → z ≡ sum_where (k + 1) test f
  sum_took f k s x z e d t is = let u = sum_yes f k t in omega arith

  pub sum_left : (f : ℕ → ℕ) (k s z : ℕ) → s ≡ sum_where k test f → test k ≡ false → z ≡ s → z ≡ sum_where (k + 1) test f
  sum_left f k s z e t is = is ∙ e ∙ sym (sum_no f k t)

  -- the loop is through
  pub sum_all : (f : ℕ → ℕ) (k n s : ℕ) → s ≡ sum_where k test f → k ≤ n → n ≤ k → s ≡ sum_where n test f
  sum_all f k n s e below above = let same : k ≡ n = omega arith in rw (← same) e

-- the sum rises, under tests that agree
pub sum_rises : (d e : ℕ → Bool) (f g : ℕ → ℕ) (n : ℕ) → d ≡ e → ((k : ℕ) → k < n → f k ≤ g k) → sum_where n d f ≤ sum_where n e g
sum_rises d e f g n same h = rw same (sum_mono e f g n h)

-- the sum is no larger, under tests that agree below n
pub sum_under : (d e : ℕ → Bool) (f g : ℕ → ℕ) (n : ℕ) → ((k : ℕ) → k < n → d k ≡ e k) → ((k : ℕ) → k < n → f k ≤ g k) → sum_where n d f ≤ sum_where n e g
sum_under d e f g zero same h = omega arith
sum_under d e f g (suc n) same h =
    let before = sum_under d e f g n (λ k below. same k (omega arith)) (λ k below. h k (omega arith)) in
    let here = part_mono (e n) (f n) (g n) (h n (omega arith)) in
    let there = ap (λ b. part b (f n)) (same n (omega arith)) in
    omega arith
