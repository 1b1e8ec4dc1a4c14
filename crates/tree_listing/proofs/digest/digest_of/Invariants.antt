use Rattle.std.proofs.Common.{◌≡◌, ℕ, List, [], ◌*◌, length, take, drop}
use Rattle.std.specs.Prelude.{slice_index_or}
use Rattle.sha2.specs.Hashers.{Holds256}
use Rattle.byte_words.specs.Blocks.{first_blocks}
use Rattle.text_words.specs.Lines.{pieces_of}
use Rattle.data_crypt.specs.Blocks.{read_block}
use Rattle.image_lines.specs.WordForms.{blocks_at}
use Rattle.data_crypt.specs.Ciphers.{seal_by}
use Rattle.tree_listing.proofs.digest.digest_of.Given as goal

abbrev pub invariant-blocks-2 : goal.invariant-blocks-2
invariant-blocks-2 l =
    let blocks = blocks_at (pieces_of l.lines) in
    let whole : List ℕ = first_blocks (λ j. read_block (seal_by l.cipher) j (slice_index_or blocks j [])) l.index in record {
      read : (m : List ℕ) × Holds256 l.hasher m × (m ≡ take l.size whole);
      sized : length whole ≡ 4096 * l.index;
      lines : blocks_at (pieces_of l.rest) ≡ drop l.index blocks;
    }
