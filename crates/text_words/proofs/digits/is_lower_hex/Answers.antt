-- A text of this length is tested digit by digit.
use Rattle.std.proofs.Common.{◌∙◌, sym, arith}
use Rattle.std.proofs.lemmas.Bool.{eqb-true}
use Rattle.text_words.proofs.DigitLemmas.{is_tested}
use Rattle.text_words.proofs.digits.is_lower_hex.Goals as goal
use Rattle.text_words.proofs.digits.is_lower_hex.Goals.{then-text-eq0, else-text-eq0}

pub returns-then-text-count : goal.returns-then-text-count
returns-then-text-count c =
    elim c.if-text-eq0.branch [
      | then-text-eq0 w ↦
          let halves : _ = eqb-true _ _ (sym w.value-is ∙ c.if-text-count.true) in
          is_tested c.args.text.now c.args.count c.has_only_lower_hex_digits.result (omega (arith, w.if-text-eq0.true, halves)) c.has_only_lower_hex_digits.ensures
      | else-text-eq0 w ↦
          let even : _ = eqb-true _ _ (sym w.value-is ∙ c.if-text-count.true) in
          absurd (omega (arith, w.if-text-eq0.false, even))
    ]
