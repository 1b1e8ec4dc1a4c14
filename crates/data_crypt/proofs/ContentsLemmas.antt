-- What is stored of a block is read again, and a file's contents come back from its stored blocks.
use Rattle.std.proofs.Common.{◌≡◌, ℕ, zero, suc, ◌+◌, ◌-◌, ◌*◌, ◌<◌, ◌≤◌, List, [], ◌++◌, length, take, drop, get_or, replicate, refl, ap, sym, ◌∙◌, arith, append_assoc}
use Rattle.std.proofs.lemmas.List.{length-take, take_all, take_at, nil_from_length}
use Rattle.std.proofs.lemmas.List.FromFn.{length-map-range_with_len, get_or-map-range_with_len}
use Rattle.std.proofs.lemmas.Grind.{div_ceil_times}
use Rattle.std.specs.Prelude.{Option, None, Some}
use Rattle.byte_words.specs.Bytes.{AreBytes}
use Rattle.byte_words.specs.Blocks.{block_at, first_blocks}
use Rattle.byte_words.specs.Xor.{zero_filled}
use Rattle.byte_words.proofs.AreBytesLemmas.{AreBytes-block_at, AreBytes-zero_filled}
use Rattle.byte_words.proofs.BlockLemmas.{first_blocks_same, first_blocks-block_at, length-block_at, block_end_le}
use Rattle.byte_words.proofs.XorLemmas.{length-zero_filled, zero_filled_full}
use Rattle.data_crypt.specs.Blocks.{Seal, first_index, block_count, plain_block, stored_block, read_block, blocks_by, stored_blocks, read_contents}
use Rattle.data_crypt.specs.Laws.{IsKeyOfBytes}
use Rattle.data_crypt.specs.BlockLaws.{IsContentsBlock}
use Rattle.data_crypt.proofs.UnitLemmas.{opened-sealed, length-sealed_block, length-opened_block}

-- ---- one block

-- what was stored of a block is read again
pub read_block-stored_block : (seal : Option Seal) (j : ℕ) (block : List ℕ) → IsKeyOfBytes seal → IsContentsBlock block → read_block seal j (stored_block seal j block) ≡ block
unfolding read_block stored_block
read_block-stored_block None j block bytes is = refl
read_block-stored_block (Some seal) j block bytes is = opened-sealed seal.key seal.unit (first_index seal j) block bytes is

pub length-stored_block : (seal : Option Seal) (j : ℕ) (block : List ℕ) → length block ≡ 4096 → length (stored_block seal j block) ≡ 4096
unfolding stored_block
length-stored_block None j block size = size
length-stored_block (Some seal) j block size = length-sealed_block seal.key seal.unit (first_index seal j) block size

pub length-read_block : (seal : Option Seal) (j : ℕ) (block : List ℕ) → length block ≡ 4096 → length (read_block seal j block) ≡ 4096
unfolding read_block
length-read_block None j block size = size
length-read_block (Some seal) j block size = length-opened_block seal.key seal.unit (first_index seal j) block size

pub length-plain_block : (contents : List ℕ) (j : ℕ) → length (plain_block contents j) ≡ 4096
unfolding plain_block block_at
length-plain_block contents j = length-zero_filled 4096 (take 4096 (drop (4096 * j) contents)) (omega (arith, length-take 4096 (drop (4096 * j) contents)))

pub plain_block-IsContentsBlock : (contents : List ℕ) (j : ℕ) → AreBytes contents → IsContentsBlock (plain_block contents j)
unfolding plain_block
plain_block-IsContentsBlock contents j bytes = record {
  size = length-plain_block contents j;
  bytes = AreBytes-zero_filled 4096 (block_at 4096 contents j) (AreBytes-block_at 4096 contents j bytes);
}

-- ---- whole files

full_block : (contents : List ℕ) (j : ℕ) → 4096 * j + 4096 ≤ length contents → plain_block contents j ≡ block_at 4096 contents j
unfolding plain_block
full_block contents j within =
    let size : length (block_at 4096 contents j) ≡ 4096 = length-block_at 4096 contents j within in
    zero_filled_full 4096 (block_at 4096 contents j) (omega arith)

last_filled : (before contents : List ℕ) (m : ℕ) →
    before ++ plain_block contents m ≡ (before ++ block_at 4096 contents m) ++ replicate (4096 - length (block_at 4096 contents m)) 0
unfolding plain_block zero_filled
last_filled before contents m = sym (append_assoc before (block_at 4096 contents m) (replicate (4096 - length (block_at 4096 contents m)) 0))

-- the plain blocks, joined and cut to the size, are the contents
plain_blocks_joined : (contents : List ℕ) (n : ℕ) → length contents ≤ 4096 * n → 4096 * n < length contents + 4096 →
    take (length contents) (first_blocks (plain_block contents) n) ≡ contents
unfolding first_blocks
plain_blocks_joined contents zero high low =
    let none : length contents ≡ 0 = omega arith in
    take_all (length contents) [] (omega arith) ∙ sym (nil_from_length contents none)
plain_blocks_joined contents (suc m) high low =
    let begun : 4096 * m < length contents = omega arith in
    let front : first_blocks (plain_block contents) m ≡ first_blocks (block_at 4096 contents) m =
    first_blocks_same (plain_block contents) (block_at 4096 contents) m
    (λ j below. let fits : 4096 * j + 4096 ≤ 4096 * m = block_end_le 4096 j m below in full_block contents j (omega arith)) in
    let whole : first_blocks (block_at 4096 contents) m ++ block_at 4096 contents m ≡ contents =
    first_blocks-block_at 4096 contents (suc m) ∙ take_all (4096 * suc m) contents high in
    ap (λ xs. take (length contents) (xs ++ plain_block contents m)) front
    ∙ ap (λ xs. take (length contents) xs) (last_filled (first_blocks (block_at 4096 contents) m) contents m)
    ∙ ap (λ xs. take (length contents) (xs ++ replicate (4096 - length (block_at 4096 contents m)) 0)) whole
    ∙ take_at contents (replicate (4096 - length (block_at 4096 contents m)) 0) (length contents) refl

pub length-blocks_by : (store : ℕ → List ℕ → List ℕ) (contents : List ℕ) → length (blocks_by store contents) ≡ block_count contents
unfolding blocks_by
length-blocks_by store contents = length-map-range_with_len (λ j. store j (plain_block contents j)) 0 (block_count contents)

pub get_or-blocks_by : (store : ℕ → List ℕ → List ℕ) (contents : List ℕ) (j : ℕ) (d : List ℕ) → j < block_count contents →
    get_or (blocks_by store contents) j d ≡ store j (plain_block contents j)
unfolding blocks_by
get_or-blocks_by store contents j d low = get_or-map-range_with_len (λ k. store k (plain_block contents k)) 0 (block_count contents) j j d low (omega arith)

pub count_high : (contents : List ℕ) → length contents ≤ 4096 * block_count contents
unfolding block_count
count_high contents = omega (arith, div_ceil_times (length contents) 4096 (omega arith))

pub count_low : (contents : List ℕ) → 4096 * block_count contents < length contents + 4096
unfolding block_count
count_low contents = omega (arith, div_ceil_times (length contents) 4096 (omega arith))

pub read_contents-stored_blocks : (seal : Option Seal) (contents : List ℕ) → IsKeyOfBytes seal → AreBytes contents →
    read_contents seal (length contents) (stored_blocks seal contents) ≡ contents
unfolding read_contents
read_contents-stored_blocks seal contents bytes is =
    ap (λ n. take (length contents) (first_blocks (λ j. read_block seal j (get_or (stored_blocks seal contents) j [])) n)) (length-blocks_by (stored_block seal) contents)
    ∙ ap (λ xs. take (length contents) xs)
    (first_blocks_same (λ j. read_block seal j (get_or (stored_blocks seal contents) j [])) (plain_block contents) (block_count contents)
    (λ j low. ap (λ b. read_block seal j b) (get_or-blocks_by (stored_block seal) contents j [] low)
    ∙ read_block-stored_block seal j (plain_block contents j) bytes (plain_block-IsContentsBlock contents j is)))
    ∙ plain_blocks_joined contents (block_count contents) (count_high contents) (count_low contents)
