-- The form in which a node of the mount is stored on the disk.
use Rattle.std.specs.Prelude.{ℕ, List, length, Option, Some, None, option_map}
use Rattle.policy_ctx.specs.declared.policy.Context.{Context}
use Rattle.policy_ctx.specs.Context.{context_bytes}
use Rattle.fsc_keys.specs.Keys.{key_bytes}
use Rattle.fsc_keys.specs.declared.file_keys.KeyKind.TheVariants.{Contents}
use Rattle.data_crypt.specs.Blocks.{Seal, stored_blocks}
use Rattle.plain_tree.specs.Nodes.{Name, Node, Body, Dir, File, Link}
use Rattle.plain_tree.specs.Stored.{stored_children}
use Rattle.disk_tree.specs.declared.node.StoredNode.{StoredNode}
use Rattle.disk_tree.specs.declared.node.Body.{Body as StoredBody}
use Rattle.disk_tree.specs.declared.node.Body.TheVariants as stored
use Rattle.mount_model.specs.PlainMount.{Raws}
use Rattle.mount_model.specs.Sealed.{node_key, node_start, sealed_name}

-- a name of the directory n, or the target of the symlink n: encrypted under its policy, otherwise as it is
abbrev pub stored_form : Raws → ℕ → Option Context → Name → List ℕ
stored_form raws n None name = name
stored_form raws n (Some c) name = sealed_name raws n c name

-- what the contents of file n are sealed with
abbrev pub contents_seal : Raws → ℕ → Option Context → Option Seal
contents_seal raws n None = None
contents_seal raws n (Some c) =
    Some (record { key = key_bytes (node_key raws c Contents); start = node_start n c; unit = c.policy.unit })

abbrev pub stored_body : Raws → ℕ → Option Context → Body → StoredBody
stored_body raws n context (Dir children) = stored.Dir (stored_children (stored_form raws n context) children)
stored_body raws n context (File contents) =
    stored.File (stored_blocks (contents_seal raws n context) contents) (length contents)
stored_body raws n context (Link target) = stored.Link (stored_form raws n context target)

-- node n: the bytes of its context, whether it has a name, and its body in its stored form
abbrev pub stored_node : Raws → ℕ → Node → StoredNode
stored_node raws n v = record {
  context = option_map context_bytes v.context;
  named = v.named;
  body = stored_body raws n v.context v.body;
}
