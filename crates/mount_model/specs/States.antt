-- What a mount holds of a key, and which nodes are keyed.
use Rattle.std.specs.Prelude.{ℕ, Bool, true, false, ◌||◌, Option, Some, None, if◌then◌else◌}
use Rattle.std.specs.List.{list_any}
use Rattle.policy_ctx.specs.declared.policy.KeyId.{KeyId}
use Rattle.policy_ctx.specs.declared.policy.Context.{Context}
use Rattle.policy_ctx.specs.KeyIds.{same_id}
use Rattle.user_claims.specs.Claims.{ClaimSet}
use Rattle.user_claims.specs.ClaimCounts.{is_present}
use Rattle.plain_tree.specs.Nodes.{Name, Nodes}
use Rattle.plain_tree.specs.NodesByNumber.{context_at}
use Rattle.mount_model.specs.PlainMount.{PlainMount}
use Rattle.mount_model.specs.OpenHandles.{has_handle}
use Rattle.mount_model.specs.Sealed.{texts}
use Rattle.mount_model.specs.declared.reply.KeyState.{KeyState}
use Rattle.mount_model.specs.declared.reply.KeyState.TheVariants.{Absent, Present, Incomplete}

abbrev pub is_of_id : KeyId → Option Context → Bool
is_of_id id None = false
is_of_id id (Some c) = same_id c.policy.id id

-- the node's policy names the key
abbrev pub names_key : Nodes → ℕ → KeyId → Bool
names_key nodes n id = is_of_id id (context_at nodes n)

-- some open handle is on a node whose policy names the key
abbrev pub is_busy : PlainMount → KeyId → Bool
is_busy m id = list_any (λ h. names_key m.nodes h.node id) m.handles

-- Present if some user has a claim, else Incomplete if the key is busy: something open still needs it
abbrev pub key_state_by : ClaimSet → Bool → KeyId → KeyState
key_state_by claims busy id = if is_present claims id then Present else if busy then Incomplete else Absent

abbrev pub key_state_of : PlainMount → KeyId → KeyState
key_state_of m id = key_state_by m.claims (is_busy m id) id

abbrev pub is_keyed_under : PlainMount → ℕ → Option Context → Bool
is_keyed_under m n None = true
is_keyed_under m n (Some c) = is_present m.claims c.policy.id || has_handle m.handles n

-- the node has no policy, or its key is present, or a handle is open on this very node
abbrev pub is_keyed : PlainMount → ℕ → Bool
is_keyed m n = is_keyed_under m n (context_at m.nodes n)

abbrev pub visible_name_under : PlainMount → ℕ → Name → Option Context → Name
visible_name_under m n name None = name
visible_name_under m n name (Some c) = if is_keyed m n then name else texts m.raws n c name

-- how a name of the directory n, or the target of the symlink n, is shown: plain if the node is keyed,
-- else by its no-key text
abbrev pub shown : PlainMount → ℕ → Name → Name
shown m n name = visible_name_under m n name (context_at m.nodes n)
