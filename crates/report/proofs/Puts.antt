-- A text in the front of a buffer, and more of it behind. Assumes nothing.
use Rattle.std.proofs.Common.{◌≡◌, ℕ, ◌+◌, ◌-◌, ◌/◌, ◌%◌, ◌^◌, ◌<◌, ◌≤◌, List, [], ◌∷◌, ◌++◌, length, get_or, take, drop, set, decimal, Ok, Err, Result, sym, refl, ap, ◌∙◌, subst, append_assoc, arith}
use borrow.Rule.Slice.PartMut.{put_mid}
use Rattle.std.proofs.lemmas.Fmt.{decimal_digit, decimal_is_IsNumeral, decimal_step}
use Rattle.std.specs.Str.Parse.{IsNumeral, digits_value}
use Rattle.terms.specs.declared.refusal.Refusal.{Refusal}
use Rattle.std.proofs.lemmas.List.{append-nil, drop_all, drop_at, drop-drop, drop_more, length-append, length-drop, length_push, set_at, take_at, take_rest}
use Rattle.report.proofs.Decimal.{length_step}
use Rattle.report.specs.Text.{Put, ReadsBack, Written}

-- one byte behind the text
pub byte_behind : (text old : List ℕ) (b : ℕ) → length text < length old → set (text ++ drop (length text) old) (length text) b ≡ (text ++ b ∷ []) ++ drop (length (text ++ b ∷ [])) old
byte_behind text old b h =
    ap (λ ys. set (text ++ ys) (length text) b) (drop_more old (length text) 0 h)
    ∙ set_at text (get_or old (length text) 0) (drop (length text + 1) old) b (length text) refl
    ∙ sym (append_assoc text (b ∷ []) (drop (length text + 1) old))
    ∙ ap (λ n. (text ++ b ∷ []) ++ drop n old) (sym (length_push text b))

pub put_byte : (text old mid : List ℕ) (n b : ℕ) → Put text old n mid → length text < length old → Put (text ++ b ∷ []) old (n + 1) (set mid n b)
put_byte text old mid n b p h = record {
  long = omega (arith, p.long, length_push text b);
  after = ap (λ m. set mid m b) p.long ∙ ap (λ xs. set xs (length text) b) p.after ∙ byte_behind text old b h;
}

-- nothing is put yet
pub put_none : (old : List ℕ) → Put [] old 0 old
put_none old = record { long = refl; after = refl }

pub put_digit : (n : ℕ) (old : List ℕ) → n < 10 → 0 < length old → Put (decimal n) old 1 (set old 0 (48 + n))
put_digit n old small room = rw (decimal_digit n small) (put_byte [] old old 0 (48 + n) (put_none old) room)

-- the last digit behind the others
pub put_step : (n at : ℕ) (old mid : List ℕ) → 10 ≤ n → n < 2 ^ 64 → length (decimal n) ≤ length old → Put (decimal (n / 10)) old at mid → Put (decimal n) old (at + 1) (set mid at (48 + n % 10))
put_step n at old mid large fits room p =
    let more = length_step n large fits in
    rw (decimal_step n large fits) (put_byte (decimal (n / 10)) old mid at (48 + n % 10) p (omega arith))

-- what was put reads back as the text
pub put_reads : (text old new : List ℕ) (n : ℕ) → Put text old n new → take n new ≡ text
put_reads text old new n p = ap (λ xs. take n xs) p.after ∙ take_at text (drop (length text) old) n (sym p.long)

-- the rest of the buffer, as it is lent on
pub rest_of : (text old mid : List ℕ) (n : ℕ) → Put text old n mid → take (length mid - n) (drop n mid) ≡ drop (length text) old
rest_of text old mid n p = take_rest mid n ∙ ap (λ xs. drop n xs) p.after ∙ drop_at text (drop (length text) old) n (sym p.long)

-- a second text, put into that rest
pub put_more : (a b old mid ys : List ℕ) (n m : ℕ) → Put a old n mid → Put b (take (length mid - n) (drop n mid)) m ys → Put (a ++ b) old (n + m) (put_mid n (length mid - n) mid ys)
put_more a b old mid ys n m p q = record {
  long = omega (arith, p.long, q.long, length-append a b);
  after =
      ap (λ zs. take n mid ++ (ys ++ zs)) (drop_all (length mid - n) (drop n mid) (omega (arith, length-drop n mid)))
      ∙ ap (λ zs. take n mid ++ zs) (append-nil ys)
      ∙ ap (λ zs. zs ++ ys) (put_reads a old mid n p)
      ∙ ap (λ zs. a ++ zs) (q.after ∙ ap (λ zs. b ++ drop (length b) zs) (rest_of a old mid n p) ∙ ap (λ zs. b ++ zs) (drop-drop (length b) (length a) old))
      ∙ sym (append_assoc a b (drop (length a + length b) old))
      ∙ ap (λ k. (a ++ b) ++ drop k old) (sym (length-append a b));
}

-- a buffer with room for both texts has room for the second in the rest
pub room_second : (a b old mid : List ℕ) (n : ℕ) → Put a old n mid → length (a ++ b) ≤ length old → length b ≤ length (take (length mid - n) (drop n mid))
room_second a b old mid n p room = omega (arith, ap length (rest_of a old mid n p), length-drop (length a) old, length-append a b)

-- a number that was written reads back
pub reads_back : (n : ℕ) (old : List ℕ) (r : Result ℕ Refusal) (new : List ℕ) → n < 2 ^ 64 → Written (decimal n) old r new → ReadsBack n r new
reads_back n old (Ok m) new fits w = subst (λ (ds : List ℕ). IsNumeral 10 ds × (digits_value 10 ds ≡ n)) (sym (put_reads (decimal n) old new m w.1)) (decimal_is_IsNumeral n fits)
reads_back n old (Err e) new fits w = tt
