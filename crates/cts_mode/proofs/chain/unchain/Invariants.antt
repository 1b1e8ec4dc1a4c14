-- The blocks before the next one are decrypted, and `previous` is the last of them as it was.
use Rattle.std.proofs.Common.{◌≡◌, ◌*◌, ◌++◌, drop}
use Rattle.aes_core.specs.Aes.{decrypted_block}
use Rattle.byte_words.specs.Blocks.{first_blocks}
use Rattle.cts_mode.specs.Cbc.{block_before, plain_block}
use Rattle.cts_mode.proofs.chain.unchain.Given as goal

abbrev pub invariant-loop-j : goal.invariant-loop-j
invariant-loop-j l =
    record {
      before : l.previous ≡ block_before l.fn.iv l.fn.text l.j;
      replaced : l.text ≡ first_blocks (plain_block (decrypted_block l.key) l.fn.iv l.fn.text) l.j ++ drop (16 * l.j) l.fn.text;
    }
