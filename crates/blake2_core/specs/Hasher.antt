-- What a contract sees of a hasher: the length of its digest, and the message that it holds.
use Rattle.std.specs.Prelude.{◌≡◌, ℕ, ◌+◌, ◌*◌, ◌%◌, ◌^◌, List, length, take, drop}
use Rattle.blake2_core.specs.Digest.{state_after, last_block}
use Rattle.blake2_core.specs.declared.Blake2b.{Blake2b}

-- the length of the digest, in bytes
abbrev pub output_length : Blake2b → ℕ
output_length hasher = hasher.size

-- the hasher has taken the first n blocks of the message into its state, and buffers the rest
pub record Follows (hasher : Blake2b) (message : List ℕ) (n : ℕ) : Type 0 where
  pub counted : length message ≡ 128 * n + hasher.used
  pub absorbed : hasher.state ≡ state_after hasher.size message n
  pub kept : take hasher.used hasher.block ≡ drop (128 * n) message
  pub offset : hasher.count ≡ 128 * n % 2 ^ 128

-- the hasher holds the message: all but the last block is in its state
unfoldable pub Holds : Blake2b → List ℕ → Type 0
Holds hasher message = Follows hasher message (last_block message)
