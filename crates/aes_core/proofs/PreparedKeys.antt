-- Prepared round keys, one after the other in a buffer.
use Rattle.std.proofs.Common.{◌≡◌, ℕ, ◌+◌, ◌-◌, ◌*◌, ◌%◌, ◌<◌, ◌≤◌, List, ◌++◌, length, take, drop, refl, ap, sym, ◌∙◌, arith, length-take-le, length-drop}
use Rattle.std.proofs.lemmas.List.{take-take}
use Rattle.std.proofs.lemmas.Simd.{put_chunk_whole}
use lib.Lanes.{chunk, put_chunk}
use borrow.Rule.Slice.PartMut.{put_mid}
use Rattle.byte_words.specs.Blocks.{block_at, first_blocks}
use Rattle.byte_words.proofs.BlockLemmas.{block_at-first_blocks}
use Rattle.byte_words.proofs.InPlace.{write_in_place}
use Rattle.aes_core.specs.Lanes.{round_key}
use Rattle.aes_core.specs.UnshiftedRows.{rotated_rows}
use Rattle.aes_core.specs.Basis.{forward_key, inverse_key, forward_keys, inverse_keys}

pub length-forward_key : (n : ℕ) (k : List ℕ) → length (forward_key n k) ≡ 16
unfolding forward_key rotated_rows
length-forward_key n k = refl

pub length-inverse_key : (n : ℕ) (k : List ℕ) → length (inverse_key n k) ≡ 16
unfolding inverse_key rotated_rows
length-inverse_key n k = refl

-- one more is written
pub key_written : (f : ℕ → List ℕ) (n count : ℕ) (now was v : List ℕ) → ((k : ℕ) → length (f k) ≡ 16) → count ≡ 16 → 16 * n + 16 ≤ length now →
    now ≡ first_blocks f n ++ drop (16 * n) was → v ≡ f n →
    put_mid (16 * n) count now (put_chunk 0 (take count (drop (16 * n) now)) v) ≡ first_blocks f (n + 1) ++ drop (16 * (n + 1)) was
key_written f n count now was v sizes whole within is made =
    let part : length (take count (drop (16 * n) now)) ≡ 16 = length-take-le count (drop (16 * n) now) (omega (arith, length-drop (16 * n) now)) ∙ whole in
    ap (λ v. put_mid (16 * n) count now (put_chunk 0 (take count (drop (16 * n) now)) v)) made
    ∙ ap (λ v. put_mid (16 * n) count now v) (put_chunk_whole (take count (drop (16 * n) now)) (f n) (part ∙ sym (sizes n)))
    ∙ write_in_place 16 f n (16 * n) count now was (f n) sizes refl whole is refl

-- one is read
pub key_read : (keys : List ℕ) (n count : ℕ) → count ≡ 16 → chunk 0 16 (take count (drop (16 * n) keys)) ≡ block_at 16 keys n
unfolding block_at
key_read keys n count whole = take-take 16 count (drop (16 * n) keys) (omega arith)

pub forward_key_at : (w keys : List ℕ) (n : ℕ) → n < 13 → keys ≡ forward_keys w → block_at 16 keys n ≡ forward_key (n % 4) (round_key w (n + 1))
unfolding forward_keys
forward_key_at w keys n low is = ap (λ v. block_at 16 v n) is
    ∙ block_at-first_blocks 16 (λ n. forward_key (n % 4) (round_key w (n + 1))) 13 n (λ j. length-forward_key (j % 4) (round_key w (j + 1))) low

pub inverse_key_at : (w keys : List ℕ) (n : ℕ) → n < 13 → keys ≡ inverse_keys w → block_at 16 keys n ≡ inverse_key (n % 4) (round_key w (13 - n))
unfolding inverse_keys
inverse_key_at w keys n low is = ap (λ v. block_at 16 v n) is
    ∙ block_at-first_blocks 16 (λ n. inverse_key (n % 4) (round_key w (13 - n))) 13 n (λ j. length-inverse_key (j % 4) (round_key w (13 - j))) low
