-- The lines of some times, one more at a time. Assumes nothing.
use Rattle.std.proofs.Common.{◌≡◌, ℕ, zero, suc, ◌+◌, ◌-◌, ◌<◌, ◌≤◌, List, [], ◌∷◌, ◌++◌, length, get_or, take, drop, sym, ap, ◌∙◌, subst, append_assoc, add-zero, zero-add, add-one, arith}
use borrow.Rule.Slice.PartMut.{put_mid}
use Rattle.std.proofs.lemmas.List.{append-nil, length-append}
use Rattle.terms.specs.Units.{Picos}
use Rattle.report.specs.Text.{Put, line, lines, listing}
use Rattle.report.proofs.Puts.{put_more}

lines_suc : (k i : ℕ) (ts : List Picos) (d : Picos) → i < length ts → lines k (take (suc i) ts) ≡ lines k (take i ts) ++ line (k + i) (get_or ts i d).0
lines_suc k i [] d h = absurd (omega arith)
lines_suc k zero (t ∷ ts) d h = append-nil (line k t.0) ∙ ap (λ j. line j t.0) (sym (add-zero k))
lines_suc k (suc i) (t ∷ ts) d h =
    let same : k + 1 + i ≡ k + suc i = omega arith in
    ap (λ xs. line k t.0 ++ xs) (lines_suc (k + 1) i ts d (omega arith) ∙ ap (λ j. lines (k + 1) (take i ts) ++ line j (get_or ts i d).0) same)
    ∙ sym (append_assoc (line k t.0) (lines (k + 1) (take i ts)) (line (k + suc i) (get_or ts i d).0))

-- one more line
pub lines_more : (k i : ℕ) (ts : List Picos) (d : Picos) → i < length ts → lines k (take (i + 1) ts) ≡ lines k (take i ts) ++ line (k + i) (get_or ts i d).0
lines_more k i ts d h = rw add-one (lines_suc k i ts d h)

-- the first lines are no longer than all
pub lines_le : (k i : ℕ) (ts : List Picos) → length (lines k (take i ts)) ≤ length (lines k ts)
lines_le k zero ts = omega arith
lines_le k (suc i) [] = omega arith
lines_le k (suc i) (t ∷ ts) = omega (arith, lines_le (k + 1) i ts, length-append (line k t.0) (lines (k + 1) (take i ts)), length-append (line k t.0) (lines (k + 1) ts))

module _ (ts : List Picos) (k : ℕ) (d : Picos) (text : List ℕ) (below : k < length ts) (is : text ≡ line k (get_or ts k d).0) where
  -- the lines of the first k times, with the next line, are those of one more
  pub row_more : lines 0 (take k ts) ++ text ≡ lines 0 (take (k + 1) ts)
  row_more =
      ap (λ xs. lines 0 (take k ts) ++ xs) is
      ∙ ap (λ j. lines 0 (take k ts) ++ line j (get_or ts k d).0) (sym (zero-add k))
      ∙ sym (lines_more 0 k ts d below)

  pub length_row : length (lines 0 (take k ts)) + length text ≡ length (lines 0 (take (k + 1) ts))
  length_row = sym (length-append (lines 0 (take k ts)) text) ∙ ap length row_more

  -- they are no longer than the listing
  pub row_room : (old : List ℕ) → length (listing ts) ≤ length old → length (lines 0 (take k ts) ++ text) ≤ length old
  row_room old room = omega (arith, ap length row_more, lines_le 0 (k + 1) ts)

  -- the next line is put into the rest of the buffer
  pub put_row : (old mid ys : List ℕ) (at r : ℕ) → Put (lines 0 (take k ts)) old at mid → Put text (take (length mid - at) (drop at mid)) r ys → Put (lines 0 (take (k + 1) ts)) old (at + r) (put_mid at (length mid - at) mid ys)
  put_row old mid ys at r p q =
      subst (λ (all : List ℕ). Put all old (at + r) (put_mid at (length mid - at) mid ys)) row_more (put_more (lines 0 (take k ts)) text old mid ys at r p q)
