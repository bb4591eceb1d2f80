-- Where partitions are placed. Assumes nothing.
use Rattle.std.specs.Prelude.{ℕ, Bool, false, ◌||◌, List, [], ◌∷◌, Some, None, Option, ◌==◌, slice_index_or}
use Rattle.terms.specs.Cores.{number_of}
use Rattle.terms.specs.declared.cores.Core.{Core}
use Rattle.arbiter.specs.Questions.{pair}
use Rattle.arbiter.specs.declared.question.Sharing.{Sharing}
use Rattle.tables.specs.declared.model.Link.{Link}

-- the core of a partition, if it has one
abbrev pub core_at : List (Option Core) → ℕ → Option Core
core_at cores partition = slice_index_or cores partition None

-- whether that is core q
abbrev pub is_core : Option Core → ℕ → Bool
is_core None q = false
is_core (Some p) q = number_of p == q

-- whether two partitions with these cores are placed on cores p and q, one on each
abbrev pub across : ℕ → ℕ → Option Core → Option Core → Bool
across p q None b = false
across p q (Some a) None = false
across p q (Some a) (Some b) = pair p q (number_of a) (number_of b)

-- whether a link joins partitions on cores p and q, one on each
abbrev pub joins : List (Option Core) → ℕ → ℕ → Link → Bool
joins cores p q l = across p q (core_at cores l.first) (core_at cores l.second)

abbrev pub any : {X : Type 0} → (X → Bool) → List X → Bool
any test [] = false
any test (x ∷ xs) = test x || any test xs

-- two different cores share when a link joins partitions placed on them, one on each
abbrev pub sharing_of : List (Option Core) → List Link → Sharing
sharing_of cores links = record {
  p01 = any (joins cores 0 1) links;
  p02 = any (joins cores 0 2) links;
  p03 = any (joins cores 0 3) links;
  p12 = any (joins cores 1 2) links;
  p13 = any (joins cores 1 3) links;
  p23 = any (joins cores 2 3) links;
}
