-- What a read copies of a file that holds contents.
use Rattle.std.proofs.Common.{◌≡◌, ℕ, ◌+◌, ◌-◌, ◌*◌, ◌/◌, ◌%◌, ◌<◌, ◌≤◌, ◌⊎◌, cond, List, [], ◌++◌, length}
use Rattle.std.proofs.Common.{take, drop, get_or, None, Some, inl, inr, refl, sym, ap, ◌∙◌, arith, option_map}
use Rattle.std.proofs.Common.{length-drop}
use Rattle.std.specs.Prelude.{min, Option}
use Rattle.std.proofs.lemmas.Bool.{cases_lt, le-leb}
use Rattle.std.proofs.lemmas.List.{take_all, drop_all}
use Rattle.std.proofs.lemmas.Grind.{div_ceil_times}
use Rattle.std.specs.Int.{div_ceil}
use Rattle.byte_words.specs.Blocks.{block_at, first_blocks}
use Rattle.byte_words.specs.Contents.{bytes_from}
use Rattle.byte_words.proofs.BlockLemmas.{first_blocks_more, length-block_at}
use Rattle.number_map.specs.Numbered.{get}
use Rattle.data_crypt.specs.Blocks.{Seal, block_count, read_block, stored_block, stored_blocks}
use Rattle.data_crypt.specs.Laws.{IsKeyOfBytes}
use Rattle.data_crypt.specs.Parts.{blocks_joined, content_of}
use Rattle.data_crypt.proofs.ContentsLemmas.{count_high, length-blocks_by, length-read_block}
use Rattle.data_crypt.proofs.ReadLemmas.{content-stored}
use Rattle.disk_tree.specs.DiskTree.{Disk, blocks_in, size_in, file_blocks, file_size}
use Rattle.disk_tree.specs.Nodes.{blocks_of, size_of}
use Rattle.disk_tree.specs.declared.node.StoredNode.{StoredNode}
use Rattle.disk_tree.specs.declared.node.Body.{Body}
use Rattle.file_disk.specs.Bodies.{file_body}
use Rattle.file_disk.specs.Pending.{IsStored, whole_size}

-- ---- side by side

pub joined_none : (blocks : List (List ℕ)) (from : ℕ) → blocks_joined blocks from 0 ≡ []
unfolding blocks_joined first_blocks
joined_none blocks from = refl

pub joined_more : (blocks : List (List ℕ)) (from i : ℕ)
    → blocks_joined blocks from (i + 1) ≡ blocks_joined blocks from i ++ get_or blocks (from + i) []
unfolding blocks_joined
joined_more blocks from i = first_blocks_more (λ k. get_or blocks (from + k) []) i

-- an opened block of the text has its size
pub length-opened_at : (seal : Option Seal) (from : ℕ) (text : List ℕ) (i : ℕ) → i < length text / 4096
    → length (read_block seal (from + i) (block_at 4096 text i)) ≡ 4096
length-opened_at seal from text i low =
    length-read_block seal (from + i) (block_at 4096 text i) (length-block_at 4096 text i (omega arith))

-- ---- a file that holds contents

has_size : (o : Option StoredNode) (body : Body) → option_map (λ node. node.body) o ≡ Some body
    → size_in o ≡ size_of body
has_size None body is = absurd (cc)
has_size (Some node) body is = let same : node.body ≡ body = cc in ap size_of same

has_blocks : (o : Option StoredNode) (body : Body) → option_map (λ node. node.body) o ≡ Some body
    → blocks_in o ≡ blocks_of body
has_blocks None body is = absurd (cc)
has_blocks (Some node) body is = let same : node.body ≡ body = cc in ap blocks_of same

module _ (disk : Disk) (file : ℕ) (seal : Option Seal) (contents : List ℕ)
    (stored : IsStored disk file seal contents) where
  blocks_stored : file_blocks disk file ≡ stored_blocks seal contents
  blocks_stored = has_blocks (get disk file) (file_body seal contents) stored.body

  pub whole_stored : whole_size disk file ≡ length contents
  whole_stored =
      let size : file_size disk file ≡ length contents =
      has_size (get disk file) (file_body seal contents) stored.body in
      let count : length (file_blocks disk file) ≡ block_count contents =
      ap length blocks_stored ∙ length-blocks_by (stored_block seal) contents in
      let enough : file_size disk file ≤ 4096 * length (file_blocks disk file) =
      omega (arith, count_high contents) in
      ap (λ b. cond b (file_size disk file) 0) (le-leb (file_size disk file)
      (4096 * length (file_blocks disk file)) enough) ∙ size

  -- nothing is there to read
  pub read_nothing : (offset len : ℕ) → (whole_size disk file ≤ offset) ⊎ (len ≡ 0)
      → [] ≡ bytes_from offset len contents
  unfolding bytes_from
  read_nothing offset len (inl past) =
      let behind : length contents ≤ offset = omega (arith, whole_stored) in
      sym (ap (take len) (drop_all offset contents behind) ∙ take_all len [] (omega arith))
  read_nothing offset len (inr none) = sym (ap (λ n. take n (drop offset contents)) none)

  cut_to : (offset len : ℕ) → bytes_from offset (min len (length contents - offset)) contents
      ≡ bytes_from offset len contents
  unfolding bytes_from
  cut_to offset len =
      let rest : length (drop offset contents) ≡ length contents - offset = length-drop offset contents in
      elim (cases_lt len (length contents - offset)) [
        | inl within ↦ let same : min len (length contents - offset) ≡ len = omega arith in
            ap (λ n. take n (drop offset contents)) same
        | inr past ↦
            take_all (min len (length contents - offset)) (drop offset contents) (omega arith)
            ∙ sym (take_all len (drop offset contents) (omega arith))
      ]

  pub read_part : (offset len part count : ℕ) (text : List ℕ) → IsKeyOfBytes seal
      → offset < whole_size disk file → part ≡ min len (whole_size disk file - offset) →
      count ≡ div_ceil (offset % 4096 + part) 4096
      → text ≡ blocks_joined (file_blocks disk file) (offset / 4096) count →
      content_of seal (offset / 4096) text (offset % 4096) part ≡ bytes_from offset len contents
  read_part offset len part count text key begins is counts copied =
      let size : whole_size disk file ≡ length contents = whole_stored in
      let place : 4096 * (offset / 4096) + offset % 4096 ≡ offset = omega arith in
      let whole = div_ceil_times (offset % 4096 + part) 4096 (omega arith) in
      let same : part ≡ min len (length contents - offset) = is ∙ ap (λ n. min len (n - offset)) size in
      let ends : 4096 * (offset / 4096) + offset % 4096 + part ≤ length contents = omega arith in
      let high = count_high contents in
      ap (λ xs. content_of seal (offset / 4096) xs (offset % 4096) part)
      (copied ∙ ap (λ bs. blocks_joined bs (offset / 4096) count) blocks_stored)
      ∙ content-stored seal contents (offset / 4096) count key stored.bytes (omega (arith, whole, high))
      (offset % 4096) part ends (omega (arith, whole))
      ∙ (λ i. bytes_from (place i) (same i) contents) ∙ cut_to offset len
