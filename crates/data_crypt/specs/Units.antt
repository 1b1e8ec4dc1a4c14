-- A block of contents in data units: each is encrypted on its own, under an index of its own.
use Rattle.std.specs.Prelude.{ℕ, ◌+◌, ◌/◌, List}
use Rattle.mount_limits.specs.declared.TheConstants.{BLOCK_SIZE}
use Rattle.byte_words.specs.Blocks.{block_at, first_blocks}
use Rattle.xts_mode.specs.Xts.{xts_encrypted, xts_decrypted}
use Rattle.policy_ctx.specs.declared.policy.Unit.{Unit as DataUnit}
use Rattle.policy_ctx.specs.Policy.{unit_bytes}

-- how many units a block of 4,096 bytes has
abbrev pub unit_count : DataUnit → ℕ
unit_count unit = BLOCK_SIZE / unit_bytes unit

-- a block whose unit i is passed through the cipher with index first + i
unfoldable pub by_units : (ℕ → List ℕ → List ℕ) → DataUnit → ℕ → List ℕ → List ℕ
by_units cipher unit first block =
    first_blocks (λ i. cipher (first + i) (block_at (unit_bytes unit) block i)) (unit_count unit)

-- a block encrypted under a key, by XTS-AES-256, and the decrypted block
abbrev pub sealed_block : List ℕ → DataUnit → ℕ → List ℕ → List ℕ
sealed_block key unit first block = by_units (xts_encrypted key) unit first block

abbrev pub opened_block : List ℕ → DataUnit → ℕ → List ℕ → List ℕ
opened_block key unit first block = by_units (xts_decrypted key) unit first block
