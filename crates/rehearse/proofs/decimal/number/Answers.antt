use Rattle.std.proofs.Common.{ℕ, List, length, Option, sym, ap, ◌∙◌, subst, arith}
use Rattle.std.specs.Str.Parse.{AllDigits, digits_value}
use Rattle.std.proofs.lemmas.Int.Digits.{digits_more}
use Rattle.std.proofs.lemmas.List.{take_all}
use Rattle.std.proofs.lemmas.Str.Parse.{digit_at}
use Rattle.rehearse.specs.Numerals.{Says}
use Rattle.rehearse.proofs.Reading.{next_value, nonempty, too_great}
use Rattle.rehearse.proofs.decimal.number.Goals as goal

pub returns-then-not-is_ascii_digit : goal.returns-then-not-is_ascii_digit
returns-then-not-is_ascii_digit c =
    λ numeral. omega (arith, digit_at c.args.word.now c.loop-byte.byte-index numeral.1 c.loop-byte-test.true, c.if-not-is_ascii_digit.ensures.cases)

pub returns-in_err-checked_mul : goal.returns-in_err-checked_mul
returns-in_err-checked_mul c =
    subst (λ (o : Option ℕ). Says c.args.word.now o) (sym c.from_residual.ensures)
    (λ _. too_great c.args.word.now c.loop-byte.byte-index c.loop-byte.n c.loop-byte-test.true c.loop-byte.invariant.1 c.if-not-is_ascii_digit.ensures.cases
    (λ small. c.in_err-checked_mul.ensures (omega (arith, small))))

pub returns-in_err-n : goal.returns-in_err-n
returns-in_err-n c =
    subst (λ (o : Option ℕ). Says c.args.word.now o) (sym c.from_residual-in_err-n.ensures)
    (λ _. too_great c.args.word.now c.loop-byte.byte-index c.loop-byte.n c.loop-byte-test.true c.loop-byte.invariant.1 c.if-not-is_ascii_digit.ensures.cases
    (λ small. c.in_err-n.ensures (omega (arith, small, c.in_ok-checked_mul.ensures))))

pub loop-byte-preserved : goal.loop-byte-preserved
loop-byte-preserved c = (
  digits_more 10 c.args.word.now c.loop-byte.byte-index c.loop-byte-test.true c.loop-byte.invariant.0 c.if-not-is_ascii_digit.ensures.bound,
  omega (arith, next_value c.args.word.now c.loop-byte.byte-index c.loop-byte.n c.loop-byte-test.true c.loop-byte.invariant.1 c.if-not-is_ascii_digit.ensures.cases, c.in_ok-checked_mul.ensures, c.in_ok-n.ensures),
  omega (arith, c.in_ok-n.ensures),
)

pub returns : goal.returns
returns c =
    let whole = take_all c.loop-byte.byte-index c.args.word.now c.loop-byte-test.false in
    let some = nonempty (length c.args.word.now) (sym c.is_empty.ensures ∙ c.if-is_empty.false) in
    ((some, subst (λ (ds : List ℕ). AllDigits 10 ds) whole c.loop-byte.invariant.0), c.loop-byte.invariant.1 ∙ ap (digits_value 10) whole, c.loop-byte.invariant.2)
