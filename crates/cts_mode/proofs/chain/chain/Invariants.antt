-- The blocks before the next one are CBC's, and `previous` is the last of them.
use Rattle.std.proofs.Common.{◌≡◌, ◌*◌, ◌++◌, suc, drop}
use Rattle.aes_core.specs.Aes.{encrypted_block}
use Rattle.byte_words.specs.Blocks.{first_blocks}
use Rattle.cts_mode.specs.Cbc.{cbc_block}
use Rattle.cts_mode.proofs.chain.chain.Given as goal

abbrev pub invariant-loop-j : goal.invariant-loop-j
invariant-loop-j l =
    record {
      last : l.previous ≡ cbc_block (encrypted_block l.key) l.fn.iv l.fn.text l.j;
      replaced : l.text ≡ first_blocks (λ j. cbc_block (encrypted_block l.key) l.fn.iv l.fn.text (suc j)) l.j ++ drop (16 * l.j) l.fn.text;
    }
