-- The bytes before i are those that the digits before them spell.
use Rattle.std.proofs.Common.{◌≡◌, ◌*◌, take, drop}
use Rattle.hex.specs.Hex.{decode_pairs}
use Rattle.hex.proofs.Pairs.{prepend}
use Rattle.text_words.proofs.digits.decode_into.Given as goal

abbrev pub invariant-bytes : goal.invariant-bytes
invariant-bytes l =
    decode_pairs 0 l.fn.text ≡ prepend (take l.i l.out) (decode_pairs (2 * l.i) (drop (2 * l.i) l.fn.text))
