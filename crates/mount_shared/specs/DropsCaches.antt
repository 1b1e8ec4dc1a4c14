-- What DropCaches leaves of what is cached for speed alone.
use Rattle.std.specs.Prelude.{◌≡◌, ⊤, []}
use Rattle.dentry_cache.specs.Names.{with_pairs}
use Rattle.inode_refs.specs.Evictions.{without_unpinned_keys}
use Rattle.mount_model.specs.declared.call.Op.{Op}
use Rattle.mount_model.specs.declared.call.Op.TheVariants.{DropCaches}
use Rattle.mount_state.specs.declared.state.MountState.{MountState}

-- the cached keys of all nodes without a handle are gone, and no others; no name is cached any more
pub record LosesCaches (old new : MountState) : Type 0 where
  pub keys : new.inodes.keys ≡ without_unpinned_keys old.inodes
  pub names : new.names ≡ with_pairs old.names []

-- by DropCaches; other calls are not restricted
abbrev pub DropsCaches : MountState → MountState → Op → Type 0
DropsCaches old new DropCaches = LosesCaches old new
DropsCaches old new op = ⊤
