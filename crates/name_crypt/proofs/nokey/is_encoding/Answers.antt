use Rattle.std.proofs.Common.{◌≡◌, length, arith, ◌∙◌, sym}
use mathlib.Core.Bool.{true≢false}
use Rattle.std.proofs.lemmas.Slice.{between_to_end}
use Rattle.name_crypt.proofs.Symbols.{symbols_of, symbols_fill, take-symbols, next_block, refused}
use Rattle.name_crypt.proofs.nokey.is_encoding.Goals.{then-text-lt32-via-then-text-lt32, then-text-lt32-via-else-text-lt32+then-not-is_short_encoding}
use Rattle.name_crypt.proofs.nokey.is_encoding.Goals as goal

pub returns-then-text-lt32 : goal.returns-then-text-lt32
returns-then-text-lt32 c =
    refused (c.args.text.now ≡ symbols_of c.args.bytes.now) (λ whole.
    let is : c.loop-bytes.text.now ≡ symbols_of c.loop-bytes.bytes.now = c.loop-bytes.invariant.0 whole in
    elim c.then-text-lt32.branch [
      | then-text-lt32-via-then-text-lt32 w ↦
          let long = symbols_fill c.loop-bytes.text.now c.loop-bytes.bytes.now c.loop-bytes-test.true is in
          omega (arith, long, w.if-text-lt32.true)
      | then-text-lt32-via-else-text-lt32+then-not-is_short_encoding w ↦
          let same = w.is_short_encoding.ensures.1 (take-symbols c.loop-bytes.text.now c.loop-bytes.bytes.now 8 (omega arith) is) in
          true≢false (sym same ∙ w.if-not-is_short_encoding.true)
    ])

pub loop-bytes-preserved : goal.loop-bytes-preserved
loop-bytes-preserved c =
    next_block c.args.text.now c.args.bytes.now c.loop-bytes.text.now c.loop-bytes.bytes.now _ _ (omega arith) c.loop-bytes.invariant
    (c.is_short_encoding.ensures.0 c.if-not-is_short_encoding.false)
    (between_to_end c.loop-bytes.text.now 32 (length c.loop-bytes.text.now) (omega arith))
    (between_to_end c.loop-bytes.bytes.now 24 (length c.loop-bytes.bytes.now) (omega arith))
