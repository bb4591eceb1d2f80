-- Links, one more at a time. Assumes nothing.
use Rattle.std.proofs.Common.{◌≡◌, ℕ, ◌+◌, ◌<◌, Bool, true, false, ◌||◌, List, [], ◌∷◌, ◌++◌, length, get_or, take, Some, None, Option, refl, ap, ◌∙◌}
use Rattle.std.proofs.lemmas.List.{take_more}
use Rattle.std.specs.Option.{option_zip}
use Rattle.terms.specs.Cores.{number_of}
use Rattle.terms.specs.declared.cores.Core.{Core}
use Rattle.arbiter.specs.Questions.{joined, pair}
use Rattle.tables.specs.declared.model.Link.{Link}
use Rattle.analysis.specs.Placed.{core_at, across, joins, any, sharing_of}

or_swap : (x y z : Bool) → (x || (y || z)) ≡ (y || (x || z))
or_swap true true z = refl
or_swap true false z = refl
or_swap false y z = refl

any_more : {X : Type 0} (test : X → Bool) (xs : List X) (x : X) → any test (xs ++ (x ∷ [])) ≡ (test x || any test xs)
any_more test [] x = refl
any_more test (y ∷ ys) x = ap (λ b. test y || b) (any_more test ys x) ∙ or_swap (test y) (test x) (any test ys)

-- what is read past the end of a list of links
abbrev no_link : Link
no_link = record { first = 0; second = 0 }

-- whether two partitions with these cores are placed on cores p and q, one on each, if both are placed
abbrev on_both : ℕ → ℕ → Option (Core × Core) → Bool
on_both p q None = false
on_both p q (Some ends) = pair p q (number_of ends.0) (number_of ends.1)

across_zip : (p q : ℕ) (a b : Option Core) → across p q a b ≡ on_both p q (option_zip a b)
across_zip p q None b = refl
across_zip p q (Some a) None = refl
across_zip p q (Some a) (Some b) = refl

-- two values together, where both are there, or one is not
pub zip_both : {A B : Type 0} (x : Option A) (y : Option B) (a : A) (b : B) → x ≡ Some a → y ≡ Some b → option_zip x y ≡ Some (a, b)
zip_both x y a b e f = rw (e, f) refl

pub zip_first : {A B : Type 0} (x : Option A) (y : Option B) → x ≡ None → option_zip x y ≡ None
zip_first x y e = rw e refl

pub zip_second : {A B : Type 0} (x : Option A) (y : Option B) → y ≡ None → option_zip x y ≡ None
zip_second None y e = refl
zip_second (Some a) y e = rw e refl

module _ (cores : List (Option Core)) (links : List Link) (k : ℕ) (within : k < length links) where
  abbrev l : Link
  l = get_or links k no_link

  one_more : (p q : ℕ) → any (joins cores p q) (take (k + 1) links) ≡ (joins cores p q l || any (joins cores p q) (take k links))
  one_more p q =
      ap (any (joins cores p q)) (take_more links k no_link within)
      ∙ any_more (joins cores p q) (take k links) l

  abbrev ends : Option (Core × Core)
  ends = option_zip (core_at cores l.first) (core_at cores l.second)

  each : (o : Option (Core × Core)) → ends ≡ o → (p q : ℕ) → any (joins cores p q) (take (k + 1) links) ≡ (on_both p q o || any (joins cores p q) (take k links))
  each o e p q =
      one_more p q ∙ ap (λ b. b || any (joins cores p q) (take k links)) (across_zip p q (core_at cores l.first) (core_at cores l.second) ∙ ap (on_both p q) e)

  -- a link that joins partitions on cores a and b
  pub sharing_joined : (a b : Core) → ends ≡ Some (a, b) → sharing_of cores (take (k + 1) links) ≡ joined (sharing_of cores (take k links)) (number_of a) (number_of b)
  sharing_joined a b e =
      let e01 = each (Some (a, b)) e 0 1 in
      let e02 = each (Some (a, b)) e 0 2 in
      let e03 = each (Some (a, b)) e 0 3 in
      let e12 = each (Some (a, b)) e 1 2 in
      let e13 = each (Some (a, b)) e 1 3 in
      let e23 = each (Some (a, b)) e 2 3 in
      cc

  -- a link with an unplaced partition
  pub sharing_passed : ends ≡ None → sharing_of cores (take (k + 1) links) ≡ sharing_of cores (take k links)
  sharing_passed e =
      let e01 = each None e 0 1 in
      let e02 = each None e 0 2 in
      let e03 = each None e 0 3 in
      let e12 = each None e 1 2 in
      let e13 = each None e 1 3 in
      let e23 = each None e 2 3 in
      cc
