-- Each step takes two digits, and writes the byte that they spell.
use Rattle.std.proofs.Common.{◌+◌, ◌*◌, slice_index, arith}
use Rattle.hex.proofs.Pairs.{decode_step, decode_start, decode_done}
use Rattle.text_words.proofs.DigitLemmas.{digit_at, pair_decoded}
use Rattle.text_words.proofs.digits.decode_into.Goals as goal

pub bytes-init : goal.bytes-init
bytes-init c = decode_start c.args.text.now c.args.out.now

pub digit_value-requires : goal.digit_value-requires
digit_value-requires c = digit_at c.args.text.now _ (omega arith) c.requires.digits

pub digit_value-requires-in-bytes : goal.digit_value-requires-in-bytes
digit_value-requires-in-bytes c = digit_at c.args.text.now _ (omega arith) c.requires.digits

pub bytes-preserved : goal.bytes-preserved
bytes-preserved c =
    decode_step c.args.text.now c.bytes.out c.bytes.i _ (omega arith) (omega arith)
    (pair_decoded (slice_index c.args.text.now (2 * c.bytes.i)) (slice_index c.args.text.now (2 * c.bytes.i + 1)) (2 * c.bytes.i) c.digit_value.result c.digit_value-in-bytes.result c.digit_value.ensures.value c.digit_value-in-bytes.ensures.value) c.bytes.invariant

pub returns : goal.returns
returns c = decode_done c.args.text.now c.bytes.out c.bytes.i (omega arith) (omega arith) c.bytes.invariant
