-- The text has another length or another byte, or is digits, which spell the bytes that are written.
use Rattle.std.proofs.Common.{◌∙◌, sym, arith}
use Rattle.text_words.proofs.DigitLemmas.{reads_no_digits, reads_other, reads_spelled}
use Rattle.text_words.proofs.digits.read_digits.Goals as goal
use Rattle.text_words.proofs.digits.read_digits.Goals.{then-text-out-via-then-text-out, then-text-out-via-else-text-out+then-not-has_only_hex_digits}

pub returns-then-text-out : goal.returns-then-text-out
returns-then-text-out c =
    elim c.then-text-out.branch [
      | then-text-out-via-then-text-out w ↦ reads_other c.args.text.now c.args.out.now (λ e. omega (arith, w.if-text-out.true, e))
      | then-text-out-via-else-text-out+then-not-has_only_hex_digits w ↦
          reads_no_digits c.args.text.now c.args.out.now (sym w.has_only_hex_digits.ensures ∙ w.if-not-has_only_hex_digits.true)
    ]

pub returns : goal.returns
returns c = reads_spelled c.args.text.now c.args.out.now c.decode_into.new.out (omega (arith, c.if-text-out.false)) c.decode_into.ensures
