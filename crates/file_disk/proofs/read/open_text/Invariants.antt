-- The blocks before this one are opened.
use Rattle.std.proofs.Common.{◌≡◌, ◌+◌, ◌*◌, ◌++◌, drop}
use Rattle.byte_words.specs.Blocks.{block_at, first_blocks}
use Rattle.data_crypt.specs.Blocks.{read_block}
use Rattle.data_crypt.specs.Ciphers.{seal_by}
use Rattle.file_disk.proofs.read.open_text.Given as goal

abbrev pub invariant-each : goal.invariant-each
invariant-each l =
    l.text ≡ first_blocks (λ i. read_block (seal_by l.cipher) (l.fn.first + i)
    (block_at 4096 l.fn.text i)) l.i ++ drop (4096 * l.i) l.fn.text
