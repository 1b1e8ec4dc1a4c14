-- Planes of round keys, one after the other in a buffer.
use Rattle.std.proofs.Common.{◌≡◌, ℕ, ◌+◌, ◌-◌, ◌*◌, ◌%◌, ◌<◌, List, length, take, drop, refl, ap, sym, ◌∙◌, arith}
use Rattle.std.proofs.lemmas.List.{take-take, drop-drop, drop-take}
use Rattle.std.specs.Int.{bit_at}
use Rattle.byte_words.specs.Blocks.{block_at}
use Rattle.byte_words.proofs.BlockLemmas.{block_at-first_blocks, length-first_blocks}
use Rattle.aes_core.specs.Lanes.{round_key}
use Rattle.aes_core.specs.Laws.{IsBlock}
use Rattle.aes_core.specs.UnshiftedRows.{rotated_rows}
use Rattle.aes_core.specs.KeyPlanes.{common_key, planes_of_key, key_planes}
use Rattle.aes_core.specs.Planes.{vector_of, plane}
use Rattle.aes_core.specs.MiddleRounds.{plus_constant}
use Rattle.aes_core.proofs.PlaneSteps.{state_map-IsBlock}
use Rattle.aes_core.proofs.RowLemmas.{rotated_rows-IsBlock}
use Rattle.aes_core.proofs.UnshiftedRounds.{map_is_state_map, plus_constant-lt}

pub length-plane : (key : List ℕ) (k : ℕ) → length (plane (λ x. bit_at x k) (λ _. key)) ≡ 16
unfolding plane vector_of
length-plane key k = refl

pub length-planes_of_key : (key : List ℕ) → length (planes_of_key key) ≡ 128
unfolding planes_of_key
length-planes_of_key key = length-first_blocks 16 (λ k. plane (λ x. bit_at x k) (λ _. key)) 8 (λ k. length-plane key k)

-- block b of group g is block 8 g + b
block_in_group : (xs : List ℕ) (g b : ℕ) → b < 8 → block_at 16 (block_at 128 xs g) b ≡ block_at 16 xs (8 * g + b)
unfolding block_at
block_in_group xs g b low =
    let rest : 16 * b + (128 - 16 * b) ≡ 128 = omega arith in
    let place : 128 * g + 16 * b ≡ 16 * (8 * g + b) = omega arith in
    ap (λ n. take 16 (drop (16 * b) (take n (drop (128 * g) xs)))) (sym rest)
    ∙ ap (λ ys. take 16 ys) (drop-take (16 * b) (128 - 16 * b) (drop (128 * g) xs))
    ∙ take-take 16 (128 - 16 * b) (drop (16 * b) (drop (128 * g) xs)) (omega arith)
    ∙ ap (λ ys. take 16 ys) (drop-drop (16 * b) (128 * g) xs) ∙ ap (λ n. take 16 (drop n xs)) place

-- the plane that is read
pub plane_read : (w keys : List ℕ) (n k at : ℕ) → n < 13 → k < 8 → at ≡ 8 * n + k → keys ≡ key_planes w →
    block_at 16 keys at ≡ plane (λ x. bit_at x k) (λ _. common_key (n % 4) (round_key w (n + 1)))
unfolding key_planes planes_of_key
plane_read w keys n k at low small place is =
    ap (λ m. block_at 16 keys m) place ∙ sym (block_in_group keys n k small)
    ∙ ap (λ v. block_at 16 (block_at 128 v n) k) is
    ∙ ap (λ v. block_at 16 v k) (block_at-first_blocks 128 (λ n. planes_of_key (common_key (n % 4) (round_key w (n + 1)))) 13 n (λ j. length-planes_of_key (common_key (j % 4) (round_key w (j + 1)))) low)
    ∙ block_at-first_blocks 16 (λ k. plane (λ x. bit_at x k) (λ _. common_key (n % 4) (round_key w (n + 1)))) 8 k (λ j. length-plane (common_key (n % 4) (round_key w (n + 1))) j) small

pub common_key-IsBlock : (n : ℕ) (k : List ℕ) → IsBlock k → IsBlock (common_key n k)
unfolding common_key plus_constant
common_key-IsBlock n k block =
    let rotated = rotated_rows-IsBlock (3 - n) k block in
    rw (map_is_state_map (λ b. plus_constant b) (rotated_rows (3 - n) k) rotated.size) (state_map-IsBlock (λ b. plus_constant b) plus_constant-lt (rotated_rows (3 - n) k) rotated)
