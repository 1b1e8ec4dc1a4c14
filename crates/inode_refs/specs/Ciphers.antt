-- The cached keys of names, whose ciphers are ready.
use Rattle.std.specs.Prelude.{ℕ, List, Option, Some, None, option_and_then}
use Rattle.fsc_keys.specs.declared.file_keys.FileKey.{FileKey}
use Rattle.fsc_keys.specs.declared.file_keys.FileKey.TheVariants as key
use Rattle.inode_refs.specs.CacheMaps.{Cache, key_at}

-- the bytes of a key, if it is one of names
abbrev pub names_in : FileKey → Option (List ℕ)
names_in (key.Contents bytes) = None
names_in (key.Names bytes) = Some bytes

-- the bytes of the key that is cached for the node, if that key is one of names
abbrev pub names_key_at : Cache → ℕ → Option (List ℕ)
names_key_at cache node = option_and_then (λ kept. names_in kept.key) (key_at cache node)
