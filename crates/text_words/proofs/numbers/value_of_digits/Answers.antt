use Rattle.std.proofs.Common.{arith, ◌^◌}
use Rattle.text_words.proofs.NumberLemmas.{digits_value-large, digits_value-more}
use Rattle.text_words.proofs.numbers.value_of_digits.Goals as goal

pub returns-in_err-checked_mul : goal.returns-in_err-checked_mul
returns-in_err-checked_mul c =
    rw c.from_residual.ensures
    (digits_value-large c.args.text.now c.loop-digit.digit-index (2 ^ 64) c.requires c.loop-digit-test.true
    (omega (arith, c.in_err-checked_mul.ensures, c.loop-digit.invariant)))

pub returns-in_err-value : goal.returns-in_err-value
returns-in_err-value c =
    rw c.from_residual-in_err-value.ensures
    (digits_value-large c.args.text.now c.loop-digit.digit-index (2 ^ 64) c.requires c.loop-digit-test.true
    (omega (arith, c.in_err-value.ensures, c.in_ok-checked_mul.ensures, c.loop-digit.invariant, c.from.ensures)))

pub loop-digit-preserved : goal.loop-digit-preserved
loop-digit-preserved c =
    omega (arith, digits_value-more c.args.text.now c.loop-digit.digit-index c.requires c.loop-digit-test.true, c.in_ok-value.ensures, c.in_ok-checked_mul.ensures, c.loop-digit.invariant, c.from.ensures)
