-- The keys and names that Linux fscrypt derives from a raw master key (fs/crypto/hkdf.c), and the
-- descriptor that the fscrypt tool gives a protector's key.
use Rattle.std.specs.Prelude.{ℕ, List, [], ◌∷◌, ◌++◌, take, codes, replicate}
use Rattle.sha2.specs.Sha512.{sha512}
use Rattle.hex.specs.Hex.{encode_lower}
use Rattle.hmac_kdf.specs.Hkdf.{hkdf_sha512}
use Rattle.policy_ctx.specs.declared.policy.KeyId.{KeyId}
use Rattle.fsc_keys.specs.declared.file_keys.KeyKind.{KeyKind}
use Rattle.fsc_keys.specs.declared.file_keys.KeyKind.TheVariants.{Contents, Names}
use Rattle.fsc_keys.specs.declared.file_keys.FileKey.{FileKey}
use Rattle.fsc_keys.specs.declared.file_keys.FileKey.TheVariants as key

-- len bytes derived from a raw key by HKDF-SHA512 without salt. The info is `fscrypt`, a zero byte, the
-- byte of the context of the derivation, and what that context adds
unfoldable pub derived : List ℕ → ℕ → List ℕ → ℕ → List ℕ
derived raw context info len = hkdf_sha512 [] raw (codes "fscrypt" ++ 0 ∷ context ∷ info) len

-- the identifier of a raw key: 16 bytes in context 1
unfoldable pub key_id_of : List ℕ → KeyId
key_id_of raw = record { 0 = derived raw 1 [] 16 }

-- the key of one file, directory or symlink, by its nonce, in context 2: 64 bytes for contents, 32
-- for names
abbrev pub file_key_of : List ℕ → KeyKind → List ℕ → FileKey
file_key_of raw Contents nonce = key.Contents (derived raw 2 nonce 64)
file_key_of raw Names nonce = key.Names (derived raw 2 nonce 32)

-- the UUID of the file system: each mount of fsc has this one
abbrev pub mount_uuid : List ℕ
mount_uuid = codes "fsc-memory-mount"

-- the key that all files, or all directories and symlinks, of a policy with flag 8 (IV_INO_LBLK_64)
-- share, in context 4. The number of the mode in policies and the UUID are added
abbrev pub mode_key_of : List ℕ → KeyKind → FileKey
mode_key_of raw Contents = key.Contents (derived raw 4 (1 ∷ mount_uuid) 64)
mode_key_of raw Names = key.Names (derived raw 4 (4 ∷ mount_uuid) 32)

-- the bytes of a file's key
abbrev pub key_bytes : FileKey → List ℕ
key_bytes (key.Contents bytes) = bytes
key_bytes (key.Names bytes) = bytes

-- the kind of the key, by what it encrypts
abbrev pub key_kind : FileKey → KeyKind
key_kind (key.Contents bytes) = Contents
key_kind (key.Names bytes) = Names

-- the key of a kind whose bytes are all zeros
abbrev pub zero_key : KeyKind → FileKey
zero_key Contents = key.Contents (replicate 64 0)
zero_key Names = key.Names (replicate 32 0)

-- the same of another key's kind
abbrev pub zeros_for : FileKey → FileKey
zeros_for (key.Contents bytes) = key.Contents (replicate 64 0)
zeros_for (key.Names bytes) = key.Names (replicate 32 0)

-- the first 8 bytes of SHA-512 taken twice, in lower-case digits
abbrev pub descriptor_of : List ℕ → List ℕ
descriptor_of bytes = encode_lower (take 8 (sha512 (sha512 bytes)))
