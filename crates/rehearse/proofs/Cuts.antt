-- The first piece of a text, by the place of its end. Assumes nothing.
use Rattle.std.proofs.Common.{◌≡◌, ℕ, ◌+◌, ◌-◌, ◌<◌, ◌≤◌, ◌==◌, Bool, true, false, inl, inr, List, length, get_or, take, drop, Some, None, sym, ap, ◌∙◌, subst, refl, arith, position, length-drop}
use Rattle.std.specs.List.{position_or_len}
use Rattle.std.proofs.lemmas.Bool.{eqb-true, eqb-false, cases_lt}
use Rattle.std.proofs.lemmas.Grind.{common_steps}
use Rattle.std.proofs.lemmas.List.{length-take-le, get_or-take, take_all}
use Rattle.std.proofs.lemmas.List.Quantifiers.{position-Some}
use Rattle.std.proofs.lemmas.List.Sums.{fails_before_first, passes_at_first}
use Rattle.rehearse.specs.Cutting.{Cut, Behind}

-- what passes stands no earlier than past a place that does not
pub further : (p : ℕ → Bool) (xs : List ℕ) (i : ℕ) → i < length xs → i ≤ position_or_len p xs → p (get_or xs i 0) ≡ false → i + 1 ≤ position_or_len p xs
further p xs i lt le fails = elim (cases_lt i (position_or_len p xs)) [
  | inl h ↦ omega (arith, h)
  | inr h ↦
      let same : position_or_len p xs ≡ i = omega (arith, h, le) in
      let at = passes_at_first p xs 0 (omega (arith, same)) in
      absurd (cc)
]

-- and the first that passes is there
pub first_at : (p : ℕ → Bool) (xs : List ℕ) (i : ℕ) → i < length xs → i ≤ position_or_len p xs → p (get_or xs i 0) ≡ true → Some i ≡ position p xs
first_at p xs i lt le passes = elim (cases_lt i (position_or_len p xs)) [
  | inl h ↦ let before = fails_before_first p xs i 0 h in absurd (cc)
  | inr h ↦ let same : position_or_len p xs ≡ i = omega (arith, h, le) in grind (arith, common_steps)
]

-- or nowhere
pub first_none : (p : ℕ → Bool) (xs : List ℕ) → length xs ≤ position_or_len p xs → None ≡ position p xs
first_none p xs far = grind (arith, common_steps)

-- a piece up to the first mark
pub cut_more : (mark : ℕ) (text : List ℕ) (n : ℕ) → position (λ byte. byte == mark) text ≡ Some n → Cut mark text (take n text) (Some (take (length text - (n + 1)) (drop (n + 1) text)))
cut_more mark text n is =
    let at = position-Some (λ byte. byte == mark) text n 0 is in
    let long : length (take n text) ≡ n = length-take-le n text (omega (arith, at.0)) in
    record {
      front = ap (λ i. take i text) (sym long);
      unmarked = λ k h e. eqb-false (get_or text k 0) mark (at.2 k (omega (arith, long))) (sym (get_or-take n text k 0 (omega (arith, long))) ∙ e);
      behind =
          subst (λ (i : ℕ). Behind mark text i (Some (take (length text - (n + 1)) (drop (n + 1) text)))) (sym long)
          (at.0, eqb-true (get_or text n 0) mark at.1, take_all (length text - (n + 1)) (drop (n + 1) text) (simp length-drop (omega arith)));
    }

-- the last piece, which has no mark
pub cut_last : (mark : ℕ) (text : List ℕ) → position (λ byte. byte == mark) text ≡ None → Cut mark text text None
cut_last mark text none =
    let far : length text ≤ position_or_len (λ byte. byte == mark) text = grind (arith, common_steps) in
    record {
      front = sym (take_all (length text) text (omega arith));
      unmarked = λ k h. eqb-false (get_or text k 0) mark (fails_before_first (λ byte. byte == mark) text k 0 (omega (arith, far)));
      behind = refl;
    }
