-- The kind of key that a node of a mount has, and when cached keys represent those of the mount: they are
-- what its raw keys and nodes give.
use Rattle.std.specs.Prelude.{◌≡◌, ℕ, [], Option, Some, None}
use Rattle.std.specs.Option.{unwrap_or}
use Rattle.policy_ctx.specs.declared.policy.KeyId.{KeyId}
use Rattle.policy_ctx.specs.declared.policy.Context.{Context}
use Rattle.fsc_keys.specs.Keys.{mode_key_of}
use Rattle.fsc_keys.specs.declared.file_keys.KeyKind.{KeyKind}
use Rattle.fsc_keys.specs.declared.file_keys.KeyKind.TheVariants.{Contents, Names}
use Rattle.number_map.specs.Numbered.{get}
use Rattle.key_ring.specs.Modes.{Modes, mode_at}
use Rattle.key_ring.specs.declared.mode_key.ModeKey.{ModeKey}
use Rattle.inode_refs.specs.CacheMaps.{Cache, key_at}
use Rattle.inode_refs.specs.declared.node_key.NodeKey.{NodeKey}
use Rattle.plain_tree.specs.Nodes.{Body, Dir, File, Link, Node}
use Rattle.plain_tree.specs.NodesByNumber.{context_at}
use Rattle.mount_model.specs.PlainMount.{PlainMount, raw_in}
use Rattle.mount_model.specs.Sealed.{node_key}

-- the kind of key of a node, by what it is
abbrev pub plain_kind_of : Body → KeyKind
plain_kind_of (Dir children) = Names
plain_kind_of (File contents) = Contents
plain_kind_of (Link target) = Names

abbrev pub plain_kind : Option Node → KeyKind
plain_kind None = Names
plain_kind (Some v) = plain_kind_of v.body

pub record RepresentsCaches (cache : Cache) (modes : Modes) (m : PlainMount) : Type 0 where
  -- a cached file key is the key of its node
  pub file_keys : (node : ℕ) (key : NodeKey) (c : Context)
      → key_at cache node ≡ Some key → context_at m.nodes node ≡ Some c
      → key.key ≡ node_key m.raws c (plain_kind (get m.nodes node))
  -- a mode key is derived from the raw key of its identifier
  pub mode_keys : (id : KeyId) (kind : KeyKind) (mode : ModeKey) → mode_at modes id kind ≡ Some mode
      → mode.key ≡ mode_key_of (unwrap_or (raw_in m.raws id) []) kind
