-- How names and targets are stored under a key (Linux, `fscrypt_fname_encrypt`).
use Rattle.std.specs.Prelude.{ℕ, List, ◌*◌, ◌++◌, length, min, max, replicate, ◌==◌}
use Rattle.std.specs.List.{before_first}
use Rattle.std.specs.Int.{div_ceil}
use Rattle.byte_words.specs.Numbers.{little_endian_bytes}
use Rattle.byte_words.specs.Xor.{zero_filled}
use Rattle.cts_mode.specs.Cts.{cts_encrypted, cts_decrypted}
use Rattle.policy_ctx.specs.declared.policy.Pad.{Pad}
use Rattle.policy_ctx.specs.Policy.{pad_size}
use Rattle.name_crypt.specs.declared.limits.TheConstants.{MAX_NAME_BYTES, MIN_STORED_BYTES}

-- the length of a stored name: at least 16, rounded up to the padding, at most 255
abbrev pub padded_length : Pad → ℕ → ℕ
padded_length pad len =
    min MAX_NAME_BYTES (div_ceil (max MIN_STORED_BYTES len) (pad_size pad) * pad_size pad)

-- the name, filled with NULs to that length and encrypted with ciphertext stealing
unfoldable pub stored_name_with : List ℕ → List ℕ → Pad → List ℕ → List ℕ
stored_name_with key iv pad name = cts_encrypted key iv (zero_filled (padded_length pad (length name)) name)

-- the iv of a node's names: the number from which the node counts in 8 bytes, the low byte first, and
-- zeros
abbrev pub name_iv : ℕ → List ℕ
name_iv start = little_endian_bytes 8 start ++ replicate 8 0

-- the stored name under a key and from a start
abbrev pub stored_name : List ℕ → ℕ → Pad → List ℕ → List ℕ
stored_name key start pad name = stored_name_with key (name_iv start) pad name

-- the bytes before the first NUL, or all of them if there is none
abbrev pub before_nul : List ℕ → List ℕ
before_nul bytes = before_first (λ b. b == 0) bytes

-- the name of a stored name, also of one that no encryption made; empty if it begins with NUL
unfoldable pub plain_name_with : List ℕ → List ℕ → List ℕ → List ℕ
plain_name_with key iv stored = before_nul (cts_decrypted key iv stored)

-- the same under a key and from a start
abbrev pub plain_name : List ℕ → ℕ → List ℕ → List ℕ
plain_name key start stored = plain_name_with key (name_iv start) stored
