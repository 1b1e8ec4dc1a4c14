-- The round keys in planes of bits, with which eight blocks at once are encrypted and decrypted. These
-- definitions describe the code and not the standard.
use Rattle.std.specs.Prelude.{ℕ, ◌+◌, ◌-◌, ◌%◌, List, map, bit_xor}
use Rattle.std.specs.Int.{bit_at}
use Rattle.byte_words.specs.Blocks.{first_blocks}
use Rattle.aes_core.specs.declared.shuffle_tables.TheConstants.{AFFINE_CONSTANT}
use Rattle.aes_core.specs.Lanes.{round_key}
use Rattle.aes_core.specs.Planes.{plane}
use Rattle.aes_core.specs.UnshiftedRows.{rotated_rows}

-- a round key as it is added to unshifted rows after n rounds modulo 4, with the constant of the S-box
unfoldable pub common_key : ℕ → List ℕ → List ℕ
common_key n key = map (λ b. bit_xor b AFFINE_CONSTANT) (rotated_rows (3 - n) key)

-- the eight planes of a key that all eight blocks share, one after the other
unfoldable pub planes_of_key : List ℕ → List ℕ
planes_of_key key = first_blocks (λ k. plane (λ x. bit_at x k) (λ _. key)) 8

-- those of the rounds 1 to 13
unfoldable pub key_planes : List ℕ → List ℕ
key_planes w = first_blocks (λ n. planes_of_key (common_key (n % 4) (round_key w (n + 1)))) 13
