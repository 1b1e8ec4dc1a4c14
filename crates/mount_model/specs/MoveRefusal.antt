-- Why a node can't get a name in a directory.
use Rattle.std.specs.Prelude.{ℕ, Bool, true, false, length, Option, Some, None}
use Rattle.std.specs.Prelude.{is_some, not, ◌==◌, ◌&&◌, nat_le, if◌then◌else◌}
use Rattle.policy_ctx.specs.declared.policy.Policy.{Policy}
use Rattle.policy_ctx.specs.declared.policy.Context.{Context}
use Rattle.plain_tree.specs.Nodes.{Name}
use Rattle.plain_tree.specs.NodesByNumber.{children, context_at, entry}
use Rattle.mount_limits.specs.declared.TheConstants.{MAX_CHILDREN}
use Rattle.mount_model.specs.declared.reply.Refusal.{Refusal}
use Rattle.mount_model.specs.declared.reply.Refusal.TheVariants.{NoKey, Inval, Exists, XDev}
use Rattle.mount_model.specs.declared.reply.Refusal.TheVariants.{NoSpace, NoKeyClash}
use Rattle.mount_model.specs.PlainMount.{PlainMount}
use Rattle.mount_model.specs.States.{is_keyed}
use Rattle.mount_model.specs.SpelledPolicy.{is_same_policy}
use Rattle.mount_model.specs.EncryptedNames.{clashes}

abbrev pub has_policy : Policy → Option Context → Bool
has_policy policy None = false
has_policy policy (Some c) = is_same_policy c.policy policy

-- a directory of the one context may hold a node of the other: it has no policy, or the node has it too
abbrev pub may_hold : Option Context → Option Context → Bool
may_hold None held = true
may_hold (Some c) held = has_policy c.policy held

-- it is another directory, and is full
abbrev pub is_full_elsewhere : PlainMount → ℕ → ℕ → Bool
is_full_elsewhere m d to = not (to == d) && nat_le MAX_CHILDREN (length (children m.nodes to))

-- why x, of the directory d, can't get this name in the directory to; above is true if x is that
-- directory or is above it
abbrev pub move_refusal : PlainMount → ℕ → ℕ → ℕ → Bool → Name → Option Refusal
move_refusal m d x to above new_name =
    if not (is_keyed m to) then Some NoKey else
    if is_some (entry m.nodes to new_name) then Some Exists else
    if above then Some Inval else
    if not (may_hold (context_at m.nodes to) (context_at m.nodes x)) then Some XDev else
    if clashes m to new_name then Some NoKeyClash else
    if is_full_elsewhere m d to then Some NoSpace else
    None
