-- What a question says. Assumes nothing.
use Rattle.std.specs.Prelude.{◌≡◌, ℕ, ◌^◌, ◌<◌, ◌≤◌, Bool, not, ◌&&◌, ◌||◌, ◌==◌, nat_lt, slice_index_or}
use Rattle.arbiter.specs.declared.question.Question.{Question}
use Rattle.arbiter.specs.declared.question.Sharing.{Sharing}
use Rattle.terms.specs.Units.{amount}

-- whether a and b are the pair of cores p and q, in either order
abbrev pub pair : ℕ → ℕ → ℕ → ℕ → Bool
pair p q a b = (a == p && b == q) || (a == q && b == p)

-- whether two cores share
abbrev pub shares : Sharing → ℕ → ℕ → Bool
shares s a b =
    (pair 0 1 a b && s.p01) || ((pair 0 2 a b && s.p02) || ((pair 0 3 a b && s.p03)
    || ((pair 1 2 a b && s.p12) || ((pair 1 3 a b && s.p13) || (pair 2 3 a b && s.p23)))))

-- whether they are two cores that don't
abbrev pub apart : Sharing → ℕ → ℕ → Bool
apart s a b = not (a == b) && not (shares s a b)

-- the sharing in which cores a and b share too, if they are two
abbrev pub joined : Sharing → ℕ → ℕ → Sharing
joined s a b = record {
  p01 = pair 0 1 a b || s.p01;
  p02 = pair 0 2 a b || s.p02;
  p03 = pair 0 3 a b || s.p03;
  p12 = pair 1 2 a b || s.p12;
  p13 = pair 1 3 a b || s.p13;
  p23 = pair 2 3 a b || s.p23;
}

-- the count of the others on core k
abbrev pub count : Question → ℕ → ℕ
count q k = (slice_index_or q.others k (amount 0)).0

-- x asks for no more than y: of the same core under the same sharing, with t and no count larger
pub record NoMore (x y : Question) : Type 0 where
  pub core : x.core ≡ y.core
  pub sharing : x.sharing ≡ y.sharing
  pub t : x.t.0 ≤ y.t.0
  pub own : x.own.0 ≤ y.own.0
  pub others : (k : ℕ) → k < 4 → count x k ≤ count y k

-- whether t or a count is past what is reckoned with
abbrev pub beyond : Question → Bool
beyond q =
    nat_lt (10 ^ 13) q.t.0 || (nat_lt (10 ^ 12) q.own.0 || (nat_lt (10 ^ 12) (count q 0)
    || (nat_lt (10 ^ 12) (count q 1) || (nat_lt (10 ^ 12) (count q 2) || nat_lt (10 ^ 12) (count q 3)))))

-- the most that an arbiter answers
abbrev pub ceiling : ℕ
ceiling = 10 ^ 14
