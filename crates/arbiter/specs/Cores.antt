-- Sums over the cores. Assumes nothing.
use Rattle.std.specs.Prelude.{◌≡◌, ℕ, ◌<◌, ◌≤◌, Bool}
use Rattle.terms.specs.Sums.{sum_where}
use Rattle.terms.specs.declared.numbers.Amount.{Amount}
use Rattle.arbiter.specs.Questions.{shares, apart}
use Rattle.arbiter.specs.declared.question.Sharing.{Sharing}

-- the sum of f over the cores below n that share with p
abbrev pub sum_sharing : ℕ → Sharing → ℕ → (ℕ → ℕ) → ℕ
sum_sharing n s p f = sum_where n (shares s p) f

-- over the other cores below n, that don't
abbrev pub sum_apart : ℕ → Sharing → ℕ → (ℕ → ℕ) → ℕ
sum_apart n s p f = sum_where n (apart s p) f

-- what a test answers at each core below n
abbrev pub Tests : ℕ → (ℕ → Bool → Type 0) → (ℕ → Bool) → Type 0
Tests n answers passes = (q : ℕ) (b : Bool) → q < n → answers q b → b ≡ passes q

-- what each core below n adds
abbrev pub Terms : {U : Type 0} → ℕ → (ℕ → Amount U → Type 0) → (ℕ → ℕ) → Type 0
Terms {U} n adds f = (q : ℕ) (a : Amount U) → q < n → adds q a → a.0 ≡ f q

-- that it adds no more than top
abbrev pub AtMost : {U : Type 0} → ℕ → (ℕ → Amount U → Type 0) → ℕ → Type 0
AtMost {U} n adds top = (q : ℕ) (a : Amount U) → q < n → adds q a → a.0 ≤ top
