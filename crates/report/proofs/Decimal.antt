-- How many digits a number has. Assumes nothing.
use Rattle.std.proofs.Common.{◌≡◌, ℕ, ◌+◌, ◌/◌, ◌%◌, ◌^◌, ◌<◌, ◌≤◌, length, decimal, ap, ◌∙◌, arith}
use Rattle.std.proofs.lemmas.Fmt.{decimal_digit, decimal_step, length-decimal-le}
use Rattle.std.proofs.lemmas.List.{length_push}

pub length_digit : (n : ℕ) → n < 10 → length (decimal n) ≡ 1
length_digit n h = ap length (decimal_digit n h)

pub length_step : (n : ℕ) → 10 ≤ n → n < 2 ^ 64 → length (decimal n) ≡ length (decimal (n / 10)) + 1
length_step n h fits = ap length (decimal_step n h fits) ∙ length_push (decimal (n / 10)) (48 + n % 10)

pub length_most : (n : ℕ) → n < 2 ^ 64 → length (decimal n) ≤ 20
length_most n fits = length-decimal-le 20 n (omega arith) (omega arith) fits

-- the digits before the last leave room for it
pub length_rest : (n : ℕ) → 10 ≤ n → n < 2 ^ 64 → length (decimal (n / 10)) ≤ 19
length_rest n h fits = omega (arith, length_step n h fits, length_most n fits)
