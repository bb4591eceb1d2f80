-- Laws of packed fields. Assumes nothing.
use Rattle.std.proofs.Common.{◌≡◌, ℕ, zero, suc, ◌+◌, ◌-◌, ◌*◌, ◌/◌, ◌%◌, ◌^◌, ◌<◌, ◌≤◌, List, [], ◌∷◌, ◌++◌, length, take, drop, replicate, sym, refl, ap, ◌∙◌, subst, mod-eq_of_lt, mul_assoc, add-mul, add_comm, zero-mul, arith, length-drop, take-append-drop, length-take}
use native.Mathlib.Nat.{pow-zero, pow-succ', mod-one, add-mul-div_right, add-mul-mod_self_right}
use Rattle.std.specs.Int.Digits.{number_from_digits, number_from_digits_after, AllBelowBase}
use Rattle.std.proofs.lemmas.Int.Digits.{number_after_append, number_lt}
use Rattle.std.proofs.lemmas.Nat.{pow-add, pow_pos, shr-shr, shr_high, mod-pow-add}
use Rattle.std.proofs.ByRecursion.{All-drop}
use Rattle.std.proofs.lemmas.Slice.{between_is}
use Rattle.tables.specs.Packed.{reach, bits_at, bits, unpack, pack, octets}

after_is : (b n : ℕ) (ds : List ℕ) → number_from_digits_after b n ds ≡ n * b ^ length ds + number_from_digits b ds
after_is b n [] = rw (pow-zero b) (omega arith)
after_is b n (d ∷ ds) =
    let z : 0 * b + d ≡ d = omega (arith, zero-mul b) in
    let first : number_from_digits b (d ∷ ds) ≡ d * b ^ length ds + number_from_digits b ds = ap (λ x. number_from_digits_after b x ds) z ∙ after_is b d ds in
    let spread : (n * b + d) * b ^ length ds ≡ n * (b * b ^ length ds) + d * b ^ length ds = add-mul (n * b) d (b ^ length ds) ∙ ap (λ x. x + d * b ^ length ds) (mul_assoc n b (b ^ length ds)) in
    let power : n * b ^ suc (length ds) ≡ n * (b * b ^ length ds) = ap (λ x. n * x) (pow-succ' b (length ds)) in
    after_is b (n * b + d) ds ∙ omega (arith, first, spread, power)

pub number_append : (b : ℕ) (xs ys : List ℕ) → number_from_digits b (xs ++ ys) ≡ number_from_digits b xs * b ^ length ys + number_from_digits b ys
number_append b xs ys = number_after_append b 0 xs ys ∙ after_is b (number_from_digits b xs) ys

pub number_cons : (d : ℕ) (bs : List ℕ) → number_from_digits 256 (d ∷ bs) ≡ d * 256 ^ length bs + number_from_digits 256 bs
number_cons d bs = ap (λ x. number_from_digits_after 256 x bs) (omega arith) ∙ after_is 256 d bs

pub octet : (k : ℕ) → 256 ^ k ≡ 2 ^ (8 * k)
octet zero = refl
octet (suc k) =
    let e : 8 * suc k ≡ 8 + 8 * k = omega arith in
    pow-succ' 256 k ∙ ap (λ x. 256 * x) (octet k) ∙ sym (pow-add 2 8 (8 * k)) ∙ ap (λ x. 2 ^ x) (sym e)

-- what lies above the bits that are asked for does not matter
pub low : (x p past w r : ℕ) → (x * 2 ^ ((r + w) + past) + p) / 2 ^ past % 2 ^ w ≡ p / 2 ^ past % 2 ^ w
low x p past w r =
    let split : x * 2 ^ ((r + w) + past) ≡ x * 2 ^ r * 2 ^ w * 2 ^ past =
    ap (λ y. x * y) (pow-add 2 (r + w) past ∙ ap (λ y. y * 2 ^ past) (pow-add 2 r w))
    ∙ sym (mul_assoc x (2 ^ r * 2 ^ w) (2 ^ past)) ∙ ap (λ y. y * 2 ^ past) (sym (mul_assoc x (2 ^ r) (2 ^ w))) in
    ap (λ y. (y + p) / 2 ^ past % 2 ^ w) split
    ∙ ap (λ y. y / 2 ^ past % 2 ^ w) (add_comm (x * 2 ^ r * 2 ^ w * 2 ^ past) p)
    ∙ ap (λ y. y % 2 ^ w) (add-mul-div_right p (x * 2 ^ r * 2 ^ w) (pow_pos past))
    ∙ add-mul-mod_self_right (p / 2 ^ past) (x * 2 ^ r) (2 ^ w)

-- the bits at o are in the bytes from o / 8 on
pub part_is : (bs : List ℕ) (o w : ℕ) → o + w ≤ 8 * length bs → number_from_digits 256 (take (reach (o + w) - o / 8) (drop (o / 8) bs)) / 2 ^ (8 * reach (o + w) - (o + w)) % 2 ^ w ≡ bits_at o w bs
part_is bs o w in' =
    let s = o / 8 in
    let e = reach (o + w) in
    let past = 8 * e - (o + w) in
    let part = take (e - s) (drop s bs) in
    let long : length part ≡ e - s = simp (length-take, length-drop) (omega arith) in
    let whole : take e bs ≡ take s (take e bs) ++ part = sym (take-append-drop s (take e bs)) ∙ ap (λ x. take s (take e bs) ++ x) (sym (between_is bs s e)) in
    let bits_of : 8 * (e - s) ≡ ((o - 8 * s) + w) + past = omega arith in
    let power : 256 ^ length part ≡ 2 ^ (((o - 8 * s) + w) + past) = ap (λ x. 256 ^ x) long ∙ octet (e - s) ∙ ap (λ x. 2 ^ x) bits_of in
    let n : number_from_digits 256 (take e bs) ≡ number_from_digits 256 (take s (take e bs)) * 2 ^ (((o - 8 * s) + w) + past) + number_from_digits 256 part =
    ap (number_from_digits 256) whole ∙ number_append 256 (take s (take e bs)) part ∙ ap (λ x. number_from_digits 256 (take s (take e bs)) * x + number_from_digits 256 part) power in
    sym (ap (λ x. x / 2 ^ past % 2 ^ w) n ∙ low (number_from_digits 256 (take s (take e bs))) (number_from_digits 256 part) past w (o - 8 * s))

-- the bits at o as a field of the whole number
pub field_is : (bs : List ℕ) (o w : ℕ) → AllBelowBase 256 bs → o + w ≤ 8 * length bs → bits_at o w bs ≡ number_from_digits 256 bs / 2 ^ (8 * length bs - (o + w)) % 2 ^ w
field_is bs o w under in' =
    let k = reach (o + w) in
    let past = 8 * k - (o + w) in
    let q = length bs - k in
    let long : length (drop k bs) ≡ q = length-drop k bs in
    let power : 256 ^ length (drop k bs) ≡ 2 ^ (8 * q) = ap (λ x. 256 ^ x) long ∙ octet q in
    let n : number_from_digits 256 bs ≡ number_from_digits 256 (take k bs) * 2 ^ (8 * q) + number_from_digits 256 (drop k bs) =
    ap (number_from_digits 256) (sym (take-append-drop k bs)) ∙ number_append 256 (take k bs) (drop k bs) ∙ ap (λ x. number_from_digits 256 (take k bs) * x + number_from_digits 256 (drop k bs)) power in
    let small : number_from_digits 256 (drop k bs) < 2 ^ (8 * q) = subst (λ x. number_from_digits 256 (drop k bs) < x) power (number_lt 256 (drop k bs) (All-drop (λ d. d < 256) k bs under)) in
    let e : 8 * length bs - (o + w) ≡ 8 * q + past = omega arith in
    sym (ap (λ x. number_from_digits 256 bs / 2 ^ x % 2 ^ w) e
    ∙ ap (λ x. x % 2 ^ w) (sym (shr-shr (number_from_digits 256 bs) (8 * q) past)
    ∙ ap (λ x. x / 2 ^ past) (ap (λ x. x / 2 ^ (8 * q)) n ∙ shr_high (number_from_digits 256 (take k bs)) (8 * q) (number_from_digits 256 (drop k bs)) small)))

pub pack_unpack : (ws : List ℕ) (n : ℕ) → pack ws (unpack ws n) ≡ n % 2 ^ bits ws
pack_unpack [] n = sym (mod-one n)
pack_unpack (w ∷ ws) n = ap (λ x. n / 2 ^ bits ws % 2 ^ w * 2 ^ bits ws + x) (pack_unpack ws n) ∙ sym (mod-pow-add n w (bits ws))

pub unpack_high : (ws : List ℕ) (h n : ℕ) → unpack ws (h * 2 ^ bits ws + n) ≡ unpack ws n
unpack_high [] h n = refl
unpack_high (w ∷ ws) h n =
    let e : (0 + w) + bits ws ≡ w + bits ws = omega arith in
    let first : (h * 2 ^ (w + bits ws) + n) / 2 ^ bits ws % 2 ^ w ≡ n / 2 ^ bits ws % 2 ^ w =
    ap (λ x. (h * 2 ^ x + n) / 2 ^ bits ws % 2 ^ w) (sym e) ∙ low h n (bits ws) w 0 in
    let rest : unpack ws (h * 2 ^ (w + bits ws) + n) ≡ unpack ws n =
    ap (λ x. unpack ws (x + n)) (ap (λ x. h * x) (pow-add 2 w (bits ws)) ∙ sym (mul_assoc h (2 ^ w) (2 ^ bits ws))) ∙ unpack_high ws (h * 2 ^ w) n in
    λ i. first i ∷ rest i

pub bits_octets : (k : ℕ) → bits (replicate k 8) ≡ 8 * k
bits_octets zero = refl
bits_octets (suc k) = omega (arith, bits_octets k)

pub octets_number : (bs : List ℕ) → AllBelowBase 256 bs → octets (length bs) (number_from_digits 256 bs) ≡ bs
octets_number [] under = refl
octets_number (d ∷ bs) under =
    let ws = replicate (length bs) 8 in
    let power : 256 ^ length bs ≡ 2 ^ bits ws = octet (length bs) ∙ ap (λ x. 2 ^ x) (sym (bits_octets (length bs))) in
    let n : number_from_digits 256 (d ∷ bs) ≡ d * 2 ^ bits ws + number_from_digits 256 bs = ap (λ x. number_from_digits_after 256 x bs) (omega arith) ∙ after_is 256 d bs ∙ ap (λ x. d * x + number_from_digits 256 bs) power in
    let small : number_from_digits 256 bs < 2 ^ bits ws = subst (λ x. number_from_digits 256 bs < x) power (number_lt 256 bs under.1) in
    let first : number_from_digits 256 (d ∷ bs) / 2 ^ bits ws % 2 ^ 8 ≡ d =
    ap (λ x. x / 2 ^ bits ws % 2 ^ 8) n ∙ ap (λ x. x % 2 ^ 8) (shr_high d (bits ws) (number_from_digits 256 bs) small) ∙ mod-eq_of_lt under.0 in
    let rest : unpack ws (number_from_digits 256 (d ∷ bs)) ≡ bs = ap (unpack ws) n ∙ unpack_high ws d (number_from_digits 256 bs) ∙ octets_number bs under.1 in
    λ i. first i ∷ rest i

-- a row's fixed part is the bytes of its fields
pub whole_row : (ws bs : List ℕ) → AllBelowBase 256 bs → bits ws ≡ 8 * length bs → octets (length bs) (pack ws (unpack ws (number_from_digits 256 bs))) ≡ bs
whole_row ws bs under e =
    let small : number_from_digits 256 bs < 2 ^ bits ws = subst (λ x. number_from_digits 256 bs < x) (octet (length bs) ∙ ap (λ x. 2 ^ x) (sym e)) (number_lt 256 bs under) in
    ap (octets (length bs)) (pack_unpack ws (number_from_digits 256 bs) ∙ mod-eq_of_lt small) ∙ octets_number bs under
