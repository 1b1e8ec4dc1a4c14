-- Eight blocks in eight vectors of bit planes: bit b of lane p of plane k is bit k of byte p of block b.
-- These definitions describe the code and not the standard.
use Rattle.std.specs.Prelude.{ℕ, zero, suc, ◌+◌, ◌-◌, ◌*◌, ◌/◌, ◌%◌, ◌<◌}
use Rattle.std.specs.Prelude.{List, map, nat_eq, slice_index, if◌then◌else◌}
use Rattle.std.specs.List.{range_with_len}
use Rattle.std.specs.Int.{bit_at}
use Rattle.aes_core.specs.Laws.{IsBlock}

-- the number of n bits, the lowest first
unfoldable pub packed : ℕ → (ℕ → ℕ) → ℕ
packed zero bit = 0
packed (suc n) bit = packed n (λ b. bit (suc b)) * 2 + bit 0

-- the vector that has bit b p as bit b of lane p
unfoldable pub vector_of : (ℕ → ℕ → ℕ) → List ℕ
vector_of bit = map (λ p. packed 8 (λ b. bit b p)) (range_with_len 0 16)

-- eight vectors, by the bits of each
unfoldable pub square_of : (ℕ → ℕ → ℕ → ℕ) → List (List ℕ)
square_of bit = map (λ r. vector_of (bit r)) (range_with_len 0 8)

-- a bit of each byte of eight blocks
unfoldable pub plane : (ℕ → ℕ) → (ℕ → List ℕ) → List ℕ
plane f blocks = vector_of (λ b p. f (slice_index (blocks b) p))

-- the eight planes of eight blocks
unfoldable pub planes : (ℕ → List ℕ) → List (List ℕ)
planes blocks = map (λ k. plane (λ x. bit_at x k) blocks) (range_with_len 0 8)

-- each of them is a block
abbrev pub AllBlocks : (ℕ → List ℕ) → Type 0
AllBlocks blocks = (b : ℕ) → IsBlock (blocks b)

-- each of them is a bit
abbrev pub AllBits : (ℕ → ℕ → ℕ) → Type 0
AllBits bit = (b p : ℕ) → bit b p < 2

-- bit k of the first vector if k / n is even, and otherwise bit k - n of the second
unfoldable pub lower_bits : ℕ → (ℕ → ℕ → ℕ) → (ℕ → ℕ → ℕ) → ℕ → ℕ → ℕ
lower_bits n first second k p = if nat_eq (k / n % 2) 0 then first k p else second (k - n) p

-- bit k + n of the first vector if k / n is even, and otherwise bit k of the second
unfoldable pub upper_bits : ℕ → (ℕ → ℕ → ℕ) → (ℕ → ℕ → ℕ) → ℕ → ℕ → ℕ
upper_bits n first second k p = if nat_eq (k / n % 2) 0 then first (k + n) p else second k p
