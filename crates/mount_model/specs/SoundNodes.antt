-- What holds of the nodes of every mount that a history leaves.
use Rattle.std.specs.Prelude.{◌≡◌, ⊤, ℕ, ◌≤◌, true, length, Option, Some, None, is_some}
use Rattle.policy_ctx.specs.declared.policy.Context.{Context}
use Rattle.plain_tree.specs.Nodes.{Name, Body, Dir, File, Link, Nodes}
use Rattle.plain_tree.specs.Facts.{EachNode, EachName}
use Rattle.plain_tree.specs.Tree.{IsTree}
use Rattle.plain_tree.specs.Seals.{IsSealed}
use Rattle.mount_model.specs.declared.limits.TheConstants.{LAST_NODE}
use Rattle.name_crypt.specs.declared.limits.TheConstants.{MAX_NAME_BYTES}
use Rattle.mount_limits.specs.declared.TheConstants.{MAX_FILE_BYTES, MAX_BLOCKS}
use Rattle.mount_model.specs.PlainMount.{Raws, raw_in}
use Rattle.mount_model.specs.Sealed.{texts}
use Rattle.mount_model.specs.Carried.{IsPart, IsTarget, AreFewBytes}
use Rattle.mount_model.specs.Blocks.{block_total}

-- a part of at most 255 bytes
abbrev pub IsName : Name → Type 0
IsName name = IsPart name × (length name ≤ MAX_NAME_BYTES)

-- a file has at most 1,048,576 bytes, a target at most 255
abbrev pub IsBody : Body → Type 0
IsBody (Dir entries) = ⊤
IsBody (File contents) = AreFewBytes contents MAX_FILE_BYTES
IsBody (Link target) = IsTarget target × (length target ≤ MAX_NAME_BYTES)

-- an identifier has 16 bytes, and its raw key was added
abbrev pub HasRaw : Raws → Option Context → Type 0
HasRaw raws None = ⊤
HasRaw raws (Some c) = (length c.policy.id.0 ≡ 16) × (is_some (raw_in raws c.policy.id) ≡ true)

pub record HasNodes (raws : Raws) (nodes : Nodes) (next : ℕ) : Type 0 where
  pub tree : IsTree nodes next
  pub sealed : IsSealed (texts raws) nodes
  pub names : EachName IsName nodes
  pub bodies : EachNode (λ n v. IsBody v.body) nodes
  pub policies : EachNode (λ n v. HasRaw raws v.context) nodes
  pub numbers : next ≤ LAST_NODE
  pub blocks : block_total nodes ≤ MAX_BLOCKS
