-- The calls that make a node with its name: what each answers, its refusals in the order in which
-- they are tried, and the mount that it leaves.
use Rattle.std.specs.Prelude.{ℕ, Bool, false, List, length}
use Rattle.std.specs.Prelude.{is_some, ◌==◌, ◌||◌, nat_le, nat_lt, if◌then◌else◌}
use Rattle.number_map.specs.Numbered.{len}
use Rattle.plain_tree.specs.Nodes.{Name, Body, Dir, File, Link}
use Rattle.plain_tree.specs.NodesByNumber.{children, context_at, entry}
use Rattle.mount_limits.specs.declared.TheConstants.{MAX_NODES, MAX_CHILDREN}
use Rattle.name_crypt.specs.declared.limits.TheConstants.{MAX_NAME_BYTES}
use Rattle.mount_model.specs.declared.limits.TheConstants.{LAST_NODE}
use Rattle.mount_model.specs.declared.reply.Refusal.TheVariants.{NoKey, Exists}
use Rattle.mount_model.specs.declared.reply.Refusal.TheVariants.{NameTooLong, NoSpace, NoKeyClash}
use Rattle.mount_model.specs.PlainMount.{PlainMount}
use Rattle.mount_model.specs.Walk.{PathParts}
use Rattle.mount_model.specs.EntryPaths.{is_root, last_part, parent}
use Rattle.mount_model.specs.AnswerForms.{Answer, refusal_with, done, at_node}
use Rattle.mount_model.specs.EncryptedNames.{lacks_key, clashes}
use Rattle.mount_model.specs.NewNodes.{new_node, with_node}

-- the directory, the mount, or the numbers are used up
abbrev pub is_full : PlainMount → ℕ → Bool
is_full m d =
    nat_le MAX_CHILDREN (length (children m.nodes d))
    || (nat_le MAX_NODES (len m.nodes) || (m.next == LAST_NODE))

-- a symlink's target of more than 255 bytes
abbrev pub is_long_target : Body → Bool
is_long_target (Dir entries) = false
is_long_target (File contents) = false
is_long_target (Link target) = nat_lt MAX_NAME_BYTES (length target)

-- what is answered in the directory d
abbrev pub answer_to_make_in : PlainMount → Name → List ℕ → Body → ℕ → Answer
answer_to_make_in m name nonce body d =
    if lacks_key m (context_at m.nodes d) then refusal_with m NoKey else
    if is_some (entry m.nodes d name) then refusal_with m Exists else
    if is_long_target body then refusal_with m NameTooLong else
    if clashes m d name then refusal_with m NoKeyClash else
    if is_full m d then refusal_with m NoSpace else
    done (with_node m d name (new_node m d nonce body))

-- an empty directory, an empty file, or a symlink with its target
abbrev pub answer_to_make : PlainMount → PathParts → List ℕ → Body → Answer
answer_to_make m path nonce body =
    if is_root path then refusal_with m Exists else
    at_node m (parent m path) (answer_to_make_in m (last_part path) nonce body)
