-- The ciphers of the names of a node.
use Rattle.std.specs.Prelude.{ℕ}
use Rattle.policy_ctx.specs.declared.policy.Context.{Context}
use Rattle.fsc_keys.specs.Keys.{key_bytes}
use Rattle.fsc_keys.specs.declared.file_keys.KeyKind.TheVariants.{Names}
use Rattle.fsc_keys.specs.declared.file_keys.FileKey.{FileKey}
use Rattle.name_crypt.specs.declared.cipher.NameCipher.{NameCipher}
use Rattle.mount_model.specs.PlainMount.{Raws}
use Rattle.mount_model.specs.Sealed.{node_key, node_start}

-- the cipher of node n's names under the key
abbrev pub cipher_with : ℕ → Context → FileKey → NameCipher
cipher_with n c key = record { key = key_bytes key; start = node_start n c }

-- the cipher of the names of node n, which has this context
abbrev pub names_cipher : Raws → ℕ → Context → NameCipher
names_cipher raws n c = cipher_with n c (node_key raws c Names)
