-- A key of a file, expanded from a pseudorandom key of HKDF-SHA512.
use Rattle.std.specs.Prelude.{ℕ, List}
use Rattle.hmac_kdf.specs.Hmac.{hash_sha512}
use Rattle.hmac_kdf.specs.Hkdf.{expanded}
use Rattle.fsc_keys.specs.declared.file_keys.KeyKind.{KeyKind}
use Rattle.fsc_keys.specs.declared.file_keys.KeyKind.TheVariants.{Contents, Names}
use Rattle.fsc_keys.specs.declared.file_keys.FileKey.{FileKey}
use Rattle.fsc_keys.specs.declared.file_keys.FileKey.TheVariants as key

-- 64 bytes for contents, 32 for names
abbrev pub expanded_key : List ℕ → KeyKind → List ℕ → FileKey
expanded_key prk Contents info = key.Contents (expanded hash_sha512 prk info 64)
expanded_key prk Names info = key.Names (expanded hash_sha512 prk info 32)
