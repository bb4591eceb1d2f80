-- A line of two numbers, as it is put together. Assumes nothing.
use Rattle.std.proofs.Common.{◌≡◌, ℕ, ◌+◌, ◌-◌, ◌<◌, ◌≤◌, List, [], ◌∷◌, ◌++◌, length, take, drop, set, decimal, sym, ap, subst, append_assoc, arith}
use borrow.Rule.Slice.PartMut.{put_mid}
use Rattle.std.proofs.lemmas.List.{length_push}
use Rattle.report.specs.Text.{Put, two_numbers}
use Rattle.report.proofs.Puts.{put_byte, put_more}

module _ (before : List ℕ) (n : ℕ) (between : List ℕ) (m : ℕ) where
  -- the line without its end
  abbrev pub both : List ℕ
  both = (before ++ decimal n) ++ (between ++ decimal m)

  pub ended : both ++ 10 ∷ [] ≡ two_numbers before n between m
  ended = ap (λ xs. xs ++ 10 ∷ []) (sym (append_assoc (before ++ decimal n) between (decimal m)))

  pub room_end : (old : List ℕ) → length (two_numbers before n between m) ≤ length old → length both < length old
  room_end old room = omega (arith, ap length ended, length_push both 10)

  -- the second number behind the first, in the rest of the buffer, and the end of the line behind both
  pub put_two : (old mid ys : List ℕ) (i j : ℕ) → length (two_numbers before n between m) ≤ length old → Put (before ++ decimal n) old i mid → Put (between ++ decimal m) (take (length mid - i) (drop i mid)) j ys → Put (two_numbers before n between m) old (i + j + 1) (set (put_mid i (length mid - i) mid ys) (i + j) 10)
  put_two old mid ys i j room p q =
      let whole = put_mid i (length mid - i) mid ys in
      subst (λ (text : List ℕ). Put text old (i + j + 1) (set whole (i + j) 10)) ended
      (put_byte both old whole (i + j) 10 (put_more (before ++ decimal n) (between ++ decimal m) old mid ys i j p q) (room_end old room))
