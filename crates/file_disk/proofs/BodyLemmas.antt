-- What a write makes of a file's body, step by step and for contents.
use Rattle.std.proofs.Common.{◌≡◌, ℕ, ◌+◌, ◌-◌, ◌/◌, ◌<◌, List, [], ◌∷◌, ◌++◌, length, replicate, refl, sym}
use Rattle.std.proofs.Common.{ap, ◌∙◌, arith}
use Rattle.std.specs.Prelude.{min, Option}
use Rattle.std.proofs.lemmas.Grind.{div_ceil_times}
use Rattle.byte_words.specs.Bytes.{AreBytes}
use Rattle.byte_words.specs.Contents.{with_bytes}
use Rattle.byte_words.proofs.ContentsLemmas.{length-with_bytes}
use Rattle.data_crypt.specs.Blocks.{Seal, block_count, read_block, stored_block, stored_blocks}
use Rattle.data_crypt.specs.Laws.{IsKeyOfBytes, Covers}
use Rattle.data_crypt.specs.Parts.{edited, rewritten}
use Rattle.data_crypt.proofs.ContentsLemmas.{length-blocks_by}
use Rattle.data_crypt.proofs.ChainLemmas.{stored_written}
use Rattle.disk_tree.specs.Blocks.{zero_block}
use Rattle.disk_tree.specs.declared.node.Body.TheVariants.{File}
use Rattle.file_disk.specs.Bodies.{file_body, end_block, blocks_with, body_after_write}

with_none : (at : ℕ) (contents : List ℕ) → with_bytes at [] contents ≡ contents
unfolding with_bytes
with_none at contents = refl

module _ (seal : Option Seal) (at : ℕ) (bytes contents : List ℕ) (key : IsKeyOfBytes seal)
    (are : AreBytes contents) (some : 0 < length bytes) where
  covers : Covers (min (block_count contents) (at / 4096)) (end_block at bytes) at (length bytes)
      (block_count contents)
  covers =
      let whole = div_ceil_times (at + length bytes) 4096 (omega arith) in
      record {
        begins = omega arith;
        joins = omega arith;
        reaches = omega (arith, whole);
        ends = omega (arith, whole);
      }

  blocks_give : blocks_with seal at bytes (stored_blocks seal contents)
      ≡ stored_blocks seal (with_bytes at bytes contents)
  unfolding blocks_with
  blocks_give =
      ap (λ n. edited (rewritten (stored_block seal) (read_block seal) n at bytes) (min n (at / 4096))
      (end_block at bytes) (stored_blocks seal contents ++ replicate (end_block at bytes - n) zero_block))
      (length-blocks_by (stored_block seal) contents)
      ∙ stored_written seal at bytes contents (min (block_count contents) (at / 4096))
      (end_block at bytes) key are some covers

pub writes_give : (seal : Option Seal) (at : ℕ) (bytes contents : List ℕ) → IsKeyOfBytes seal
    → AreBytes contents →
    body_after_write seal at bytes (file_body seal contents) ≡ file_body seal (with_bytes at bytes contents)
writes_give seal at [] contents key are = ap (file_body seal) (sym (with_none at contents))
writes_give seal at (b ∷ bs) contents key are =
    let some : 0 < length (b ∷ bs) = omega arith in
    (λ i. File (blocks_give seal at (b ∷ bs) contents key are some i)
    (sym (length-with_bytes at (b ∷ bs) contents some) i))
