-- How keys are cached; definitions for private functions.
use Rattle.std.specs.Prelude.{◌≡◌, ℕ, Bool, List, Option, IfSome, not, ◌&&◌, ◌==◌}
use Rattle.std.specs.Ordering.{nat_cmp}
use Rattle.std.specs.Global.{Global}
use Rattle.std.specs.declared.boxed.Box.{Box}
use Rattle.key_counts.specs.MapViews.{map_by_order}
use Rattle.policy_ctx.specs.declared.policy.KeyId.{KeyId}
use Rattle.policy_ctx.specs.KeyIds.{same_id}
use Rattle.byte_words.specs.Bytes.{AreBytes}
use Rattle.fsc_keys.specs.declared.file_keys.FileKey.{FileKey}
use Rattle.inode_refs.specs.declared.node_key.NodeKey.{NodeKey}
use Rattle.inode_refs.specs.CacheMaps.{KeyMap, PinMap, pins_at}
use Rattle.inode_refs.specs.Ciphers.{names_in}

-- the cipher of a key of names is that of its bytes; a key of contents has none
pub record IsCipherIn (cipher : Option (List ℕ)) (key : FileKey) : Type 0 where
  pub same : cipher ≡ names_in key
  pub ranged : IfSome cipher AreBytes

-- a cached key in its box; its round keys aren't seen
abbrev pub KeyBox : Type 0
KeyBox = Box NodeKey Global

-- the keys in the boxes
abbrev pub keys_of : List (ℕ × KeyBox) → KeyMap
keys_of entries = map_by_order nat_cmp (λ key. key.value) entries

abbrev pub pins_in : List (ℕ × ℕ) → PinMap
pins_in entries = map_by_order nat_cmp (λ count. count) entries

-- whether an entry is a node with pins, and its key was derived from the master key
abbrev pub is_user : PinMap → KeyId → ℕ × KeyBox → Bool
is_user pins id entry = not (pins_at pins entry.0 == 0) && same_id entry.1.value.id id
