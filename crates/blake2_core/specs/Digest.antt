-- The BLAKE2b digest of a message, without a key (RFC 7693, 3.3).
use Rattle.std.specs.Prelude.{ℕ, zero, suc, ◌-◌, ◌*◌, ◌/◌, true, false, List}
use Rattle.std.specs.Prelude.{bit_xor, slice_index, slice_set, length, take}
use Rattle.byte_words.specs.Blocks.{block_at}
use Rattle.byte_words.specs.Xor.{zero_filled}
use Rattle.blake2_core.specs.Words.{bytes_of_words}
use Rattle.blake2_core.specs.Constants.{initial_vector}
use Rattle.blake2_core.specs.Compression.{compressed}

-- the state at the start, for a digest of `size` bytes: IV with the parameter word in its first word
-- (2.5: no key, fan-out and depth 1)
abbrev pub initial_state : ℕ → List ℕ
initial_state size =
    slice_set initial_vector 0 (bit_xor (bit_xor (slice_index initial_vector 0) 0x01010000) size)

-- the state after the first n blocks of a message, none of which is its last
unfoldable pub state_after : ℕ → List ℕ → ℕ → List ℕ
state_after size message zero = initial_state size
state_after size message (suc n) =
    compressed (state_after size message n) (block_at 128 message n) (128 * suc n) false

-- the number of the last block, counted from 0; the empty message has one block
abbrev pub last_block : List ℕ → ℕ
last_block message = (length message - 1) / 128

-- the digest: the first `size` bytes of the state after the last block, which zeros fill up
unfoldable pub blake2b_digest : ℕ → List ℕ → List ℕ
blake2b_digest size message =
    let n = last_block message in
    let block = zero_filled 128 (block_at 128 message n) in
    take size (bytes_of_words (compressed (state_after size message n) block (length message) true))
