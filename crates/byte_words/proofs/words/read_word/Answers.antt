-- The eight bytes are the block.
use Rattle.std.proofs.Common.{◌*◌, List, ℕ, take, drop, sym, ap, ◌∙◌, arith, w64, length-drop}
use Rattle.std.proofs.lemmas.List.{length-take-le}
use Rattle.std.specs.Int.{from_le_bytes}
use Rattle.byte_words.specs.Blocks.{block_at}
use Rattle.byte_words.proofs.NumberLemmas.{from_le_bytes-value}
use Rattle.byte_words.proofs.WordLemmas.{take_eight}
use Rattle.byte_words.proofs.words.read_word.Goals as goal

pub returns : goal.returns
unfolding block_at
returns c =
    let rest : List ℕ = drop (8 * c.args.i) c.args.bytes.now in
    c.from_le_bytes.ensures ∙ ap (from_le_bytes w64) (sym (take_eight c.args.bytes.now (8 * c.args.i) (omega arith)))
    ∙ from_le_bytes-value w64 (take 8 rest) (omega arith) (length-take-le 8 rest (omega (arith, length-drop (8 * c.args.i) c.args.bytes.now)))
