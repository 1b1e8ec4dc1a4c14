-- What is cached of nodes: keys by their numbers, and the pins of each.
use Rattle.std.specs.Prelude.{ℕ, ◌==◌, if◌then◌else◌, Option, Some, None, unwrap_or, is_none}
use Rattle.std.specs.Ordering.{nat_cmp}
use Rattle.std.specs.FinMap as map
use Rattle.inode_refs.specs.declared.node_key.NodeKey.{NodeKey}

abbrev pub KeyMap : Type 0
KeyMap = map.FinMap nat_cmp NodeKey

abbrev pub PinMap : Type 0
PinMap = map.FinMap nat_cmp ℕ

pub record Cache : Type 0 where
  pub keys : KeyMap
  pub pins : PinMap

abbrev pub no_cache : Cache
no_cache = record { keys = map.empty; pins = map.empty }

-- the key of the node with its identifier, if one is cached
abbrev pub key_at : Cache → ℕ → Option NodeKey
key_at cache node = map.get cache.keys node

-- how often the node is pinned; 0 if it has no entry
abbrev pub pins_at : PinMap → ℕ → ℕ
pins_at pins node = unwrap_or (map.get pins node) 0

abbrev pub pins_of : Cache → ℕ → ℕ
pins_of cache node = pins_at cache.pins node

-- the pins with this number of them on the node
abbrev pub with_pins : PinMap → ℕ → ℕ → PinMap
with_pins pins node count = if count == 0 then map.remove pins node else map.insert pins node count

-- the keys after this one was passed with a pin: a key that is cached remains
abbrev pub with_pinned_key : KeyMap → ℕ → Option NodeKey → KeyMap
with_pinned_key keys node None = keys
with_pinned_key keys node (Some key) = if is_none (map.get keys node) then map.insert keys node key else keys
