-- Fields that were packed are read back. Assumes nothing.
use Rattle.std.proofs.Common.{◌≡◌, ℕ, zero, suc, ◌+◌, ◌-◌, ◌*◌, ◌/◌, ◌%◌, ◌^◌, ◌<◌, ◌≤◌, List, [], ◌∷◌, length, replicate, sym, refl, ap, ◌∙◌, subst, mod-eq_of_lt, mul_comm, arith}
use native.Mathlib.Nat.{mod-one}
use Rattle.std.specs.Int.Digits.{number_from_digits, AllBelowBase}
use Rattle.std.proofs.lemmas.Nat.{pow-add, shr_high, mod-pow-add, mul-add-lt, mod_below}
use Rattle.tables.specs.Packed.{bits_at, bits, unpack, pack, octets}
use Rattle.tables.proofs.Packing.{number_cons, octet, bits_octets, unpack_high, field_is}

-- values that fit fields of these widths
abbrev pub Fit : List ℕ → List ℕ → Type 0
Fit [] [] = Unit {0}
Fit [] (v ∷ vs) = ⊥
Fit (w ∷ ws) [] = ⊥
Fit (w ∷ ws) (v ∷ vs) = (v < 2 ^ w) × Fit ws vs

pub pack_lt : (ws vs : List ℕ) → Fit ws vs → pack ws vs < 2 ^ bits ws
pack_lt [] [] h = omega arith
pack_lt (w ∷ ws) (v ∷ vs) h =
    subst (λ x. v * 2 ^ bits ws + pack ws vs < x) (mul_comm (2 ^ bits ws) (2 ^ w) ∙ sym (pow-add 2 w (bits ws))) (mul-add-lt v (2 ^ bits ws) (pack ws vs) (2 ^ w) h.0 (pack_lt ws vs h.1))
pack_lt [] (v ∷ vs) h = absurd h
pack_lt (w ∷ ws) [] h = absurd h

pub unpack_pack : (ws vs : List ℕ) → Fit ws vs → unpack ws (pack ws vs) ≡ vs
unpack_pack [] [] h = refl
unpack_pack (w ∷ ws) (v ∷ vs) h =
    let first : (v * 2 ^ bits ws + pack ws vs) / 2 ^ bits ws % 2 ^ w ≡ v = ap (λ x. x % 2 ^ w) (shr_high v (bits ws) (pack ws vs) (pack_lt ws vs h.1)) ∙ mod-eq_of_lt h.0 in
    let rest : unpack ws (v * 2 ^ bits ws + pack ws vs) ≡ vs = unpack_high ws v (pack ws vs) ∙ unpack_pack ws vs h.1 in
    λ i. first i ∷ rest i
unpack_pack [] (v ∷ vs) h = absurd h
unpack_pack (w ∷ ws) [] h = absurd h

pub octets_long : (k n : ℕ) → length (octets k n) ≡ k
octets_long zero n = refl
octets_long (suc k) n = ap suc (octets_long k n)

pub octets_under : (k n : ℕ) → AllBelowBase 256 (octets k n)
octets_under zero n = tt
octets_under (suc k) n = (mod_below _ 256 (omega arith), octets_under k n)

-- a number of bytes is that of its octets
pub number_octets : (k n : ℕ) → number_from_digits 256 (octets k n) ≡ n % 2 ^ (8 * k)
number_octets zero n = sym (mod-one n)
number_octets (suc k) n =
    let b : bits (replicate k 8) ≡ 8 * k = bits_octets k in
    let long : length (octets k n) ≡ k = octets_long k n in
    let e : 8 + 8 * k ≡ 8 * suc k = omega arith in
    number_cons (n / 2 ^ bits (replicate k 8) % 2 ^ 8) (octets k n)
    ∙ ap (λ x. n / 2 ^ bits (replicate k 8) % 2 ^ 8 * 256 ^ x + number_from_digits 256 (octets k n)) long
    ∙ ap (λ x. n / 2 ^ bits (replicate k 8) % 2 ^ 8 * x + number_from_digits 256 (octets k n)) (octet k)
    ∙ ap (λ x. n / 2 ^ x % 2 ^ 8 * 2 ^ (8 * k) + number_from_digits 256 (octets k n)) b
    ∙ ap (λ x. n / 2 ^ (8 * k) % 2 ^ 8 * 2 ^ (8 * k) + x) (number_octets k n)
    ∙ sym (mod-pow-add n 8 (8 * k)) ∙ ap (λ x. n % 2 ^ x) e

-- the fields of packed bytes
pub fields : (ws vs : List ℕ) (k : ℕ) → Fit ws vs → bits ws ≡ 8 * k → unpack ws (number_from_digits 256 (octets k (pack ws vs))) ≡ vs
fields ws vs k fit e =
    let small : pack ws vs < 2 ^ (8 * k) = subst (λ x. pack ws vs < 2 ^ x) e (pack_lt ws vs fit) in
    ap (unpack ws) (number_octets k (pack ws vs) ∙ mod-eq_of_lt small) ∙ unpack_pack ws vs fit

-- one of them, by its place
pub field_at : (ws vs : List ℕ) (k o w : ℕ) → o + w ≤ 8 * k → bits_at o w (octets k (pack ws vs)) ≡ number_from_digits 256 (octets k (pack ws vs)) / 2 ^ (8 * k - (o + w)) % 2 ^ w
field_at ws vs k o w in' =
    let b = octets k (pack ws vs) in
    let long : length (octets k (pack ws vs)) ≡ k = octets_long k (pack ws vs) in
    field_is b o w (octets_under k (pack ws vs)) (omega arith) ∙ ap (λ x. number_from_digits 256 b / 2 ^ (8 * x - (o + w)) % 2 ^ w) long
