-- Blocks unit by unit: what a cipher of units did to a block, its inverse undoes.
use Rattle.std.proofs.Common.{◌≡◌, ℕ, ◌+◌, ◌-◌, ◌*◌, ◌/◌, ◌%◌, ◌<◌, ◌≤◌, List, ◌++◌, length, drop, refl, ap, sym, ◌∙◌, arith}
use borrow.Rule.Slice.PartMut.{put_mid}
use Rattle.std.specs.List.{between}
use Rattle.byte_words.specs.Bytes.{AreBytes}
use Rattle.byte_words.specs.Blocks.{block_at, first_blocks}
use Rattle.byte_words.proofs.AreBytesLemmas.{AreBytes-block_at, AreBytes-first_blocks}
use Rattle.byte_words.proofs.BlockLemmas.{length-first_blocks_below, first_blocks_same, block_at-first_blocks_below, length-block_at, between-block_at, block_end_le, first_blocks-whole}
use Rattle.byte_words.proofs.InPlace.{all_in_place, read_in_place_below, write_in_place_below}
use Rattle.xts_mode.specs.Laws.{IsUnit}
use Rattle.xts_mode.specs.Xts.{xts_encrypted, xts_decrypted}
use Rattle.xts_mode.proofs.UnitLemmas.{decrypted-encrypted_unit, encrypted-decrypted_unit, length-xts_encrypted, length-xts_decrypted, xts_encrypted-IsUnit, xts_decrypted-IsUnit}
use Rattle.policy_ctx.specs.declared.policy.Unit.{Unit as DataUnit}
use Rattle.policy_ctx.specs.declared.policy.Unit.TheVariants.{Block, U512, U1024, U2048, U4096}
use Rattle.policy_ctx.specs.Policy.{unit_bytes}
use Rattle.data_crypt.specs.Units.{unit_count, by_units, sealed_block, opened_block}
use Rattle.data_crypt.specs.BlockLaws.{IsContentsBlock}

-- the units of a block are the block, each of whole blocks of the cipher
pub units_whole : (unit : DataUnit) → unit_bytes unit * unit_count unit ≡ 4096
units_whole Block = refl
units_whole U512 = refl
units_whole U1024 = refl
units_whole U2048 = refl
units_whole U4096 = refl

pub units_even : (unit : DataUnit) → unit_bytes unit % 16 ≡ 0
units_even Block = refl
units_even U512 = refl
units_even U1024 = refl
units_even U2048 = refl
units_even U4096 = refl

-- what a cipher makes of each unit
abbrev pub unit_by : (ℕ → List ℕ → List ℕ) → DataUnit → ℕ → List ℕ → ℕ → List ℕ
unit_by cipher unit first block i = cipher (first + i) (block_at (unit_bytes unit) block i)

-- what is known of a cipher of units
pub record IsUnitCipher (cipher : ℕ → List ℕ → List ℕ) : Type 0 where
  pub sizes : (index : ℕ) (x : List ℕ) → length x % 16 ≡ 0 → length (cipher index x) ≡ length x
  pub units : (index : ℕ) (x : List ℕ) → IsUnit x → IsUnit (cipher index x)

pub encrypting : (key : List ℕ) → AreBytes key → IsUnitCipher (xts_encrypted key)
encrypting key bytes = record { sizes = λ index x even. length-xts_encrypted key index x even; units = λ index x is. xts_encrypted-IsUnit key index x bytes is }

pub decrypting : (key : List ℕ) → AreBytes key → IsUnitCipher (xts_decrypted key)
decrypting key bytes = record { sizes = λ index x even. length-xts_decrypted key index x even; units = λ index x is. xts_decrypted-IsUnit key index x bytes is }

module _ (unit : DataUnit) (block : List ℕ) (size : length block ≡ 4096) where
  unit_size : (i : ℕ) → i < unit_count unit → length (block_at (unit_bytes unit) block i) ≡ unit_bytes unit
  unit_size i low =
      let ends : unit_bytes unit * i + unit_bytes unit ≤ unit_bytes unit * unit_count unit = block_end_le (unit_bytes unit) i (unit_count unit) low in
      let whole : unit_bytes unit * unit_count unit ≡ 4096 = units_whole unit in
      length-block_at (unit_bytes unit) block i (omega arith)

  pub length-unit_by : (cipher : ℕ → List ℕ → List ℕ) (first : ℕ) → ((index : ℕ) (x : List ℕ) → length x % 16 ≡ 0 → length (cipher index x) ≡ length x) →
      (i : ℕ) → i < unit_count unit → length (unit_by cipher unit first block i) ≡ unit_bytes unit
  length-unit_by cipher first sizes i low =
      sizes (first + i) (block_at (unit_bytes unit) block i) (ap (λ n. n % 16) (unit_size i low) ∙ units_even unit) ∙ unit_size i low

  pub length-by_units : (cipher : ℕ → List ℕ → List ℕ) (first : ℕ) → ((index : ℕ) (x : List ℕ) → length x % 16 ≡ 0 → length (cipher index x) ≡ length x) →
      length (by_units cipher unit first block) ≡ 4096
  unfolding by_units
  length-by_units cipher first sizes =
      length-first_blocks_below (unit_bytes unit) (unit_by cipher unit first block) (unit_count unit) (length-unit_by cipher first sizes) ∙ units_whole unit

  -- one more unit is passed and replaced; a call returns its size
  pub one_more_unit : (cipher : ℕ → List ℕ → List ℕ) (first : ℕ) → ((index : ℕ) (x : List ℕ) → length x % 16 ≡ 0 → length (cipher index x) ≡ length x) →
      (now made : List ℕ) (width i : ℕ) → width ≡ unit_bytes unit → i < 4096 / width →
      now ≡ first_blocks (unit_by cipher unit first block) i ++ drop (unit_bytes unit * i) block → made ≡ cipher (first + i) (between (width * i) (width * i + width) now) →
      put_mid (width * i) (width * i + width - width * i) now made ≡ first_blocks (unit_by cipher unit first block) (i + 1) ++ drop (unit_bytes unit * (i + 1)) block
  one_more_unit cipher first sizes now made width i same within replaced passed =
      let count : 4096 / width ≡ unit_count unit = ap (λ u. 4096 / u) same in
      let begins : width * i ≡ unit_bytes unit * i = ap (λ u. u * i) same in
      let ends : width * i + width ≡ unit_bytes unit * i + unit_bytes unit = ap (λ u. u * i + u) same in
      let long : width * i + width - width * i ≡ unit_bytes unit = omega arith in
      let below : (j : ℕ) → j < i → length (unit_by cipher unit first block j) ≡ unit_bytes unit = λ j low. length-unit_by cipher first sizes j (omega arith) in
      let read : block_at (unit_bytes unit) now i ≡ block_at (unit_bytes unit) block i = read_in_place_below (unit_bytes unit) (unit_by cipher unit first block) i now block below replaced in
      write_in_place_below (unit_bytes unit) (unit_by cipher unit first block) i (width * i) (width * i + width - width * i) now block made below begins long replaced
      (passed ∙ ap (cipher (first + i)) (between-block_at (unit_bytes unit) now i (width * i) (width * i + width) begins ends ∙ read))

  -- the loop has come to the end of the block
  pub units_done : (cipher : ℕ → List ℕ → List ℕ) (first : ℕ) (now : List ℕ) (i : ℕ) → i ≡ unit_count unit →
      now ≡ first_blocks (unit_by cipher unit first block) i ++ drop (unit_bytes unit * i) block → now ≡ by_units cipher unit first block
  unfolding by_units
  units_done cipher first now i last replaced =
      let whole : unit_bytes unit * i ≡ 4096 = ap (λ k. unit_bytes unit * k) last ∙ units_whole unit in
      all_in_place (unit_bytes unit) (unit_by cipher unit first block) i now block replaced (omega arith)
      ∙ ap (λ k. first_blocks (unit_by cipher unit first block) k) last

  unit_is : AreBytes block → (i : ℕ) → i < unit_count unit → IsUnit (block_at (unit_bytes unit) block i)
  unit_is bytes i low = record {
    whole_blocks = ap (λ n. n % 16) (unit_size i low) ∙ units_even unit;
    bytes = AreBytes-block_at (unit_bytes unit) block i bytes;
  }

  pub by_units-IsContentsBlock : (cipher : ℕ → List ℕ → List ℕ) (first : ℕ) → IsUnitCipher cipher → AreBytes block → IsContentsBlock (by_units cipher unit first block)
  unfolding by_units
  by_units-IsContentsBlock cipher first good bytes = record {
    size = length-by_units cipher first good.sizes;
    bytes = AreBytes-first_blocks (unit_by cipher unit first block) (unit_count unit)
        (λ i low. let one : IsUnit (unit_by cipher unit first block i) = good.units (first + i) (block_at (unit_bytes unit) block i) (unit_is bytes i low) in one.bytes);
  }

  pub by_units-undone : (f g : ℕ → List ℕ → List ℕ) (first : ℕ) → IsUnitCipher f → ((index : ℕ) (x : List ℕ) → IsUnit x → g index (f index x) ≡ x) → AreBytes block →
      by_units g unit first (by_units f unit first block) ≡ block
  unfolding by_units
  by_units-undone f g first good undone bytes =
      first_blocks_same (λ i. g (first + i) (block_at (unit_bytes unit) (first_blocks (unit_by f unit first block) (unit_count unit)) i)) (block_at (unit_bytes unit) block) (unit_count unit)
      (λ i low. ap (λ x. g (first + i) x) (block_at-first_blocks_below (unit_bytes unit) (unit_by f unit first block) (unit_count unit) i (length-unit_by f first good.sizes) low)
      ∙ undone (first + i) (block_at (unit_bytes unit) block i) (unit_is bytes i low))
      ∙ first_blocks-whole (unit_bytes unit) block (unit_count unit) (size ∙ sym (units_whole unit))

-- ---- blocks

pub opened-sealed : (key : List ℕ) (unit : DataUnit) (first : ℕ) (block : List ℕ) → AreBytes key → IsContentsBlock block → opened_block key unit first (sealed_block key unit first block) ≡ block
opened-sealed key unit first block bytes is =
    by_units-undone unit block is.size (xts_encrypted key) (xts_decrypted key) first (encrypting key bytes) (λ index x one. decrypted-encrypted_unit key index x bytes one) is.bytes

pub sealed-opened : (key : List ℕ) (unit : DataUnit) (first : ℕ) (block : List ℕ) → AreBytes key → IsContentsBlock block → sealed_block key unit first (opened_block key unit first block) ≡ block
sealed-opened key unit first block bytes is =
    by_units-undone unit block is.size (xts_decrypted key) (xts_encrypted key) first (decrypting key bytes) (λ index x one. encrypted-decrypted_unit key index x bytes one) is.bytes

pub length-sealed_block : (key : List ℕ) (unit : DataUnit) (first : ℕ) (block : List ℕ) → length block ≡ 4096 → length (sealed_block key unit first block) ≡ 4096
length-sealed_block key unit first block size = length-by_units unit block size (xts_encrypted key) first (λ index x even. length-xts_encrypted key index x even)

pub length-opened_block : (key : List ℕ) (unit : DataUnit) (first : ℕ) (block : List ℕ) → length block ≡ 4096 → length (opened_block key unit first block) ≡ 4096
length-opened_block key unit first block size = length-by_units unit block size (xts_decrypted key) first (λ index x even. length-xts_decrypted key index x even)

pub sealed_block-IsContentsBlock : (key : List ℕ) (unit : DataUnit) (first : ℕ) (block : List ℕ) → AreBytes key → IsContentsBlock block → IsContentsBlock (sealed_block key unit first block)
sealed_block-IsContentsBlock key unit first block bytes is = by_units-IsContentsBlock unit block is.size (xts_encrypted key) first (encrypting key bytes) is.bytes

pub opened_block-IsContentsBlock : (key : List ℕ) (unit : DataUnit) (first : ℕ) (block : List ℕ) → AreBytes key → IsContentsBlock block → IsContentsBlock (opened_block key unit first block)
opened_block-IsContentsBlock key unit first block bytes is = by_units-IsContentsBlock unit block is.size (xts_decrypted key) first (decrypting key bytes) is.bytes
