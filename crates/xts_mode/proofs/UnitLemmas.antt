-- Units block by block: the inverse of a cipher undoes it on a unit.
use Rattle.std.proofs.Common.{◌≡◌, ℕ, zero, suc, ◌+◌, ◌*◌, ◌/◌, ◌%◌, ◌<◌, ◌≤◌, List, ◌++◌, length, take, drop, ap, sym, ◌∙◌, arith}
use Rattle.byte_words.specs.Blocks.{block_at, first_blocks}
use Rattle.byte_words.proofs.BlockLemmas.{length-first_blocks, first_blocks_same, block_at-first_blocks, length-block_at, first_blocks-whole}
use Rattle.byte_words.proofs.InPlace.{all_in_place}
use Rattle.aes_core.specs.Aes.{encrypted_block, decrypted_block}
use Rattle.aes_core.specs.Laws.{AreBytes, IsBlock}
use Rattle.aes_core.proofs.RoundLemmas.{length-encrypted_block, length-decrypted_block, encrypted_block-IsBlock, decrypted_block-IsBlock, decrypted-encrypted, encrypted-decrypted}
use Rattle.xts_mode.specs.Laws.{IsUnit}
use Rattle.xts_mode.specs.Xts.{tweak_at, tweaked, unit_of, xts_encrypted, xts_decrypted}
use Rattle.xts_mode.proofs.ByteLists.{append-AreBytes, take-AreBytes, drop-AreBytes}
use Rattle.xts_mode.proofs.TweakLemmas.{length-tweaked, tweaked-IsBlock, tweaked-tweaked}

-- the blocks of a unit, each with its tweak
abbrev pub tweaked_blocks : (List ℕ → List ℕ) → List ℕ → ℕ → List ℕ → ℕ → List ℕ
tweaked_blocks cipher key index unit j = tweaked cipher (tweak_at key index j) (block_at 16 unit j)

-- the facts of a cipher of blocks that are used
pub record IsCipher (cipher : List ℕ → List ℕ) : Type 0 where
  pub sizes : (x : List ℕ) → length (cipher x) ≡ 16
  pub blocks : (x : List ℕ) → IsBlock x → IsBlock (cipher x)

pub encrypting : (key : List ℕ) → AreBytes key → IsCipher (encrypted_block (take 32 key))
encrypting key bytes = record {
  sizes = λ x. length-encrypted_block (take 32 key) x;
  blocks = λ x is. encrypted_block-IsBlock (take 32 key) x (take-AreBytes 32 key bytes) is;
}

pub decrypting : (key : List ℕ) → AreBytes key → IsCipher (decrypted_block (take 32 key))
decrypting key bytes = record {
  sizes = λ x. length-decrypted_block (take 32 key) x;
  blocks = λ x is. decrypted_block-IsBlock (take 32 key) x (take-AreBytes 32 key bytes) is;
}

whole : (n : ℕ) → n % 16 ≡ 0 → n ≡ 16 * (n / 16)
whole n even = omega arith

pub length-unit_of : (cipher : List ℕ → List ℕ) (key : List ℕ) (index : ℕ) (unit : List ℕ) → ((x : List ℕ) → length (cipher x) ≡ 16) → length unit % 16 ≡ 0 →
    length (unit_of cipher key index unit) ≡ length unit
unfolding unit_of
length-unit_of cipher key index unit sizes even =
    length-first_blocks 16 (tweaked_blocks cipher key index unit) (length unit / 16) (λ j. length-tweaked cipher (tweak_at key index j) (block_at 16 unit j) sizes)
    ∙ sym (whole (length unit) even)

fits : (n j : ℕ) → n % 16 ≡ 0 → j < n / 16 → 16 * j + 16 ≤ n
fits n j even low = omega arith

block_at-IsBlock : (unit : List ℕ) (j : ℕ) → IsUnit unit → j < length unit / 16 → IsBlock (block_at 16 unit j)
unfolding block_at
block_at-IsBlock unit j is low = record {
  size = length-block_at 16 unit j (fits (length unit) j is.whole_blocks low);
  bytes = take-AreBytes 16 (drop (16 * j) unit) (drop-AreBytes (16 * j) unit is.bytes);
}

first_blocks-AreBytes : (f : ℕ → List ℕ) (n : ℕ) → ((j : ℕ) → j < n → AreBytes (f j)) → AreBytes (first_blocks f n)
unfolding first_blocks
first_blocks-AreBytes f zero bytes i = omega arith
first_blocks-AreBytes f (suc n) bytes i =
    append-AreBytes (first_blocks f n) (f n) (first_blocks-AreBytes f n (λ j low. bytes j (omega arith))) (bytes n (omega arith)) i

pub unit_of-IsUnit : (cipher : List ℕ → List ℕ) (key : List ℕ) (index : ℕ) (unit : List ℕ) → IsCipher cipher → IsUnit unit → IsUnit (unit_of cipher key index unit)
unfolding unit_of
unit_of-IsUnit cipher key index unit good is = record {
  whole_blocks = ap (λ n. n % 16) (length-unit_of cipher key index unit good.sizes is.whole_blocks) ∙ is.whole_blocks;
  bytes = first_blocks-AreBytes (tweaked_blocks cipher key index unit) (length unit / 16)
      (λ j low. let block : IsBlock (tweaked_blocks cipher key index unit j) = tweaked-IsBlock cipher (tweak_at key index j) (block_at 16 unit j) good.blocks (block_at-IsBlock unit j is low) in block.bytes);
}

unit_of-unit_of : (f g : List ℕ → List ℕ) (key : List ℕ) (index : ℕ) (unit : List ℕ) → IsCipher f → ((x : List ℕ) → IsBlock x → g (f x) ≡ x) → IsUnit unit →
    unit_of g key index (unit_of f key index unit) ≡ unit
unfolding unit_of
unit_of-unit_of f g key index unit good undone is =
    let n : ℕ = length unit / 16 in
    let sealed : List ℕ = first_blocks (tweaked_blocks f key index unit) n in
    let sizes : (j : ℕ) → length (tweaked_blocks f key index unit j) ≡ 16 = λ j. length-tweaked f (tweak_at key index j) (block_at 16 unit j) good.sizes in
    let same_length : length sealed ≡ length unit = length-first_blocks 16 (tweaked_blocks f key index unit) n sizes ∙ sym (whole (length unit) is.whole_blocks) in
    ap (λ k. first_blocks (tweaked_blocks g key index sealed) (k / 16)) same_length
    ∙ first_blocks_same (tweaked_blocks g key index sealed) (block_at 16 unit) n
    (λ j low. ap (λ b. tweaked g (tweak_at key index j) b) (block_at-first_blocks 16 (tweaked_blocks f key index unit) n j sizes low)
    ∙ tweaked-tweaked f g (tweak_at key index j) (block_at 16 unit j) good.blocks undone (block_at-IsBlock unit j is low))
    ∙ first_blocks-whole 16 unit n (whole (length unit) is.whole_blocks)

pub decrypted-encrypted_unit : (key : List ℕ) (index : ℕ) (unit : List ℕ) → AreBytes key → IsUnit unit → xts_decrypted key index (xts_encrypted key index unit) ≡ unit
unfolding xts_encrypted xts_decrypted
decrypted-encrypted_unit key index unit bytes is =
    unit_of-unit_of (encrypted_block (take 32 key)) (decrypted_block (take 32 key)) key index unit (encrypting key bytes)
    (λ x block. decrypted-encrypted (take 32 key) x (take-AreBytes 32 key bytes) block) is

pub encrypted-decrypted_unit : (key : List ℕ) (index : ℕ) (unit : List ℕ) → AreBytes key → IsUnit unit → xts_encrypted key index (xts_decrypted key index unit) ≡ unit
unfolding xts_encrypted xts_decrypted
encrypted-decrypted_unit key index unit bytes is =
    unit_of-unit_of (decrypted_block (take 32 key)) (encrypted_block (take 32 key)) key index unit (decrypting key bytes)
    (λ x block. encrypted-decrypted (take 32 key) x (take-AreBytes 32 key bytes) block) is

pub length-xts_encrypted : (key : List ℕ) (index : ℕ) (unit : List ℕ) → length unit % 16 ≡ 0 → length (xts_encrypted key index unit) ≡ length unit
unfolding xts_encrypted
length-xts_encrypted key index unit even = length-unit_of (encrypted_block (take 32 key)) key index unit (λ x. length-encrypted_block (take 32 key) x) even

pub length-xts_decrypted : (key : List ℕ) (index : ℕ) (unit : List ℕ) → length unit % 16 ≡ 0 → length (xts_decrypted key index unit) ≡ length unit
unfolding xts_decrypted
length-xts_decrypted key index unit even = length-unit_of (decrypted_block (take 32 key)) key index unit (λ x. length-decrypted_block (take 32 key) x) even

pub xts_encrypted-IsUnit : (key : List ℕ) (index : ℕ) (unit : List ℕ) → AreBytes key → IsUnit unit → IsUnit (xts_encrypted key index unit)
unfolding xts_encrypted
xts_encrypted-IsUnit key index unit bytes is = unit_of-IsUnit (encrypted_block (take 32 key)) key index unit (encrypting key bytes) is

pub xts_decrypted-IsUnit : (key : List ℕ) (index : ℕ) (unit : List ℕ) → AreBytes key → IsUnit unit → IsUnit (xts_decrypted key index unit)
unfolding xts_decrypted
xts_decrypted-IsUnit key index unit bytes is = unit_of-IsUnit (decrypted_block (take 32 key)) key index unit (decrypting key bytes) is

-- the loop has reached the end of the unit
pub unit_done : (cipher : List ℕ → List ℕ) (key : List ℕ) (index : ℕ) (unit now : List ℕ) (j : ℕ) → length unit % 16 ≡ 0 → j ≡ length unit / 16 →
    now ≡ first_blocks (tweaked_blocks cipher key index unit) j ++ drop (16 * j) unit → now ≡ unit_of cipher key index unit
unfolding unit_of
unit_done cipher key index unit now j even last replaced =
    all_in_place 16 (tweaked_blocks cipher key index unit) j now unit replaced (omega (arith, whole (length unit) even))
    ∙ ap (λ k. first_blocks (tweaked_blocks cipher key index unit) k) last
