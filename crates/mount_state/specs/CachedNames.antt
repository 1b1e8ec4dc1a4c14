-- What of plain names may be cached, and when they are those of a mount.
use Rattle.std.specs.Prelude.{◌≡◌, ℕ, Bool, true, false, Option, Some, None, IsSome, Contains, ◌⊎◌}
use Rattle.number_map.specs.Numbered.{get}
use Rattle.user_claims.specs.Claims.{ClaimSet}
use Rattle.dentry_cache.specs.Names.{Pair, NameList, cached_node}
use Rattle.dentry_cache.specs.NameChanges.{one_more}
use Rattle.plain_tree.specs.Nodes.{Name, Nodes}
use Rattle.plain_tree.specs.NodesByNumber.{entry}
use Rattle.disk_tree.specs.DiskTree.{Disk}
use Rattle.disk_tree.specs.declared.node.StoredNode.{StoredNode}
use Rattle.disk_tree.specs.declared.node.Body.{Body}
use Rattle.disk_tree.specs.declared.node.Body.TheVariants.{Dir, File, Link}
use Rattle.mount_model.specs.PlainMount.{HandleList}
use Rattle.mount_state.specs.Contexts.{context_on_disk}
use Rattle.mount_state.specs.KeyUse.{is_unlocked}

abbrev pub is_dir_body : Body → Bool
is_dir_body (Dir entries) = true
is_dir_body (File blocks size) = false
is_dir_body (Link target) = false

abbrev pub is_dir_node : Option StoredNode → Bool
is_dir_node None = false
is_dir_node (Some v) = is_dir_body v.body

-- the number is that of a directory
abbrev pub is_dir_on_disk : Disk → ℕ → Bool
is_dir_on_disk disk node = is_dir_node (get disk node)

-- ---- what must be forgotten

pub record NamesForget (disk : Disk) (claims : ClaimSet) (names : NameList) (live : HandleList) : Type 0 where
  -- a name is cached only of a directory that is there
  pub there : (pair : Pair) → Contains names.pairs pair → is_dir_on_disk disk pair.0.dir ≡ true
  -- and only while its key is available: without a claim on it, while a handle is on this very directory
  pub keyed : (pair : Pair) → Contains names.pairs pair → is_unlocked disk claims live pair.0.dir ≡ true

-- ---- what they are

pub record RepresentsNames (names : NameList) (nodes : Nodes) : Type 0 where
  -- a cached name resolves as the directory's entry does
  pub entries : (pair : Pair) → Contains names.pairs pair → entry nodes pair.0.dir pair.0.name ≡ Some pair.1

-- ---- what a look-up leaves

-- the name of that node is cached, or there was no memory for it and that was counted
abbrev pub IsCachedOrCounted : NameList → NameList → ℕ → Name → ℕ → Type 0
IsCachedOrCounted old new dir name number =
    (cached_node new dir name ≡ Some number) ⊎ (new.refused ≡ one_more old.refused)

-- so it is in a keyed directory with a policy
abbrev pub FillsNames : Disk → ClaimSet → HandleList → NameList → NameList → ℕ → Name → ℕ → Type 0
FillsNames disk claims live old new dir name number =
    IsSome (context_on_disk (get disk dir)) → is_unlocked disk claims live dir ≡ true
    → IsCachedOrCounted old new dir name number
