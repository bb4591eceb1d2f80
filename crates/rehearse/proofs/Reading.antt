-- Digits that are read one by one. Assumes nothing.
use Rattle.std.proofs.Common.{◌≡◌, ℕ, ◌+◌, ◌-◌, ◌*◌, ◌^◌, ◌<◌, ◌≤◌, false, eqb, List, [], ◌∷◌, ◌++◌, length, get_or, take, drop, sym, refl, subst, arith, take-append-drop}
use Rattle.std.specs.Str.Parse.{digits_value, digits_value_after}
use Rattle.std.specs.Int.{IsInRange}
use Rattle.std.specs.Char.{digit_value}
use Rattle.std.proofs.lemmas.Int.Digits.{digits_value_more}
use Rattle.std.proofs.lemmas.Bool.{eqb-false}
use Rattle.std.proofs.lemmas.Str.{digit_value_digit}

pub nonempty : (n : ℕ) → eqb n 0 ≡ false → 0 < n
nonempty n e = omega (arith, eqb-false n 0 e)

grows : (n d v : ℕ) → n * 10 + d ≤ v → n ≤ v
grows n d v h = omega arith

-- further digits make no number smaller
after_ge : (n : ℕ) (ds : List ℕ) → n ≤ digits_value_after 10 n ds
after_ge n [] = omega arith
after_ge n (c ∷ cs) = grows n (digit_value c) _ (after_ge (n * 10 + digit_value c) cs)

after_append : (n : ℕ) (xs ys : List ℕ) → digits_value_after 10 n (xs ++ ys) ≡ digits_value_after 10 (digits_value_after 10 n xs) ys
after_append n [] ys = refl
after_append n (x ∷ xs) ys = after_append (n * 10 + digit_value x) xs ys

-- the first digits say no greater number than all of them
front_le : (i : ℕ) (ds : List ℕ) → digits_value 10 (take i ds) ≤ digits_value 10 ds
front_le i ds =
    subst (λ (l : List ℕ). digits_value 10 (take i ds) ≤ digits_value 10 l) (take-append-drop i ds)
    (subst (λ (v : ℕ). digits_value 10 (take i ds) ≤ v) (sym (after_append 0 (take i ds) (drop i ds))) (after_ge (digits_value 10 (take i ds)) (drop i ds)))

step : (v w n x d : ℕ) → w ≡ v * 10 + d → d + 48 ≡ x → n ≡ v → n * 10 + (x - 48) ≡ w
step v w n x d p q r = omega arith

-- one more digit
pub next_value : (ds : List ℕ) (i n : ℕ) → i < length ds → n ≡ digits_value 10 (take i ds) → IsInRange 48 57 (get_or ds i 0) → n * 10 + (get_or ds i 0 - 48) ≡ digits_value 10 (take (i + 1) ds)
next_value ds i n lt is digit =
    step (digits_value 10 (take i ds)) (digits_value 10 (take (i + 1) ds)) n (get_or ds i 0) (digit_value (get_or ds i 0)) (digits_value_more 10 ds i lt) (digit_value_digit (get_or ds i 0) digit) is

above : (m w v : ℕ) → m ≡ w → w ≤ v → (m < 2 ^ 64 → ⊥) → 2 ^ 64 ≤ v
above m w v p q r = omega arith

-- once the number is too great, it stays so
pub too_great : (ds : List ℕ) (i n : ℕ) → i < length ds → n ≡ digits_value 10 (take i ds) → IsInRange 48 57 (get_or ds i 0) → (n * 10 + (get_or ds i 0 - 48) < 2 ^ 64 → ⊥) → 2 ^ 64 ≤ digits_value 10 ds
too_great ds i n lt is digit past =
    above (n * 10 + (get_or ds i 0 - 48)) (digits_value 10 (take (i + 1) ds)) (digits_value 10 ds) (next_value ds i n lt is digit) (front_le (i + 1) ds) past
