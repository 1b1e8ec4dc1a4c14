-- What a directory that gets a policy needs of its key, and what the call answers there.
use Rattle.std.specs.Prelude.{◌≡◌, ℕ, true, List, [], None, if◌then◌else◌}
use Rattle.number_map.specs.Numbered.{insert}
use Rattle.policy_ctx.specs.declared.policy.Context.{Context}
use Rattle.fsc_keys.specs.declared.file_keys.FileKey.{FileKey}
use Rattle.fsc_keys.specs.declared.file_keys.KeyKind.TheVariants.{Names}
use Rattle.key_ring.specs.Modes.{Modes, of_kind, with_kind}
use Rattle.key_ring.specs.ModeUsers.{with_users}
use Rattle.inode_refs.specs.CacheMaps.{Cache}
use Rattle.user_claims.specs.ClaimCounts.{is_present}
use Rattle.plain_tree.specs.NodesByNumber.{children}
use Rattle.mount_model.specs.declared.reply.Reply.{Reply}
use Rattle.mount_model.specs.PlainMount.{PlainMount}
use Rattle.mount_model.specs.AnswerForms.{done}
use Rattle.mount_model.specs.PolicyAnswers.{answer_to_encrypt, answer_to_set_at}
use Rattle.mount_model.specs.WellFormed.{IsWellFormed}
use Rattle.plain_tree.specs.Changes.{with_node_context}
use Rattle.mount_state.specs.AnswerOf.{IsAnswerOrNoMemory}
use Rattle.mount_state.specs.Represents.{Represents}
use Rattle.mount_state.specs.declared.state.MountState.{MountState}

-- the file keys once the directory's own is cached; under flag 8 none is
abbrev pub keys_with : Cache → ℕ → Context → FileKey → Cache
keys_with cache dir c key =
    if c.policy.by_mode then cache
    else record cache { keys = insert cache.keys dir (record { id = c.policy.id; key = key }) }

-- the mode keys once the one of names has that many users more; without flag 8 it has none more
abbrev pub modes_with : Modes → ℕ → Context → FileKey → Modes
modes_with modes handles c key =
    if c.policy.by_mode then with_kind modes Names (with_users (of_kind modes Names) c.policy.id key handles)
    else modes

-- the node is given the policy, as the call answers
abbrev pub SetsAt : MountState → MountState → ℕ → ℕ → List ℕ → List ℕ → Reply → Type 0
SetsAt old new uid n policy nonce reply = (m : PlainMount) → Represents old m
    → IsWellFormed (answer_to_set_at m uid policy nonce n).mount
    → IsAnswerOrNoMemory m (answer_to_set_at m uid policy nonce n) reply new

-- the directory without policy is given this context, as the call answers
abbrev pub EncryptsAt : MountState → MountState → ℕ → ℕ → Context → Reply → Type 0
EncryptsAt old new uid d c reply = (m : PlainMount) → Represents old m
    → IsWellFormed (answer_to_encrypt m uid d c None).mount
    → IsAnswerOrNoMemory m (answer_to_encrypt m uid d c None) reply new

-- the mount in which the directory has this context
abbrev pub with_policy : PlainMount → ℕ → Context → PlainMount
with_policy m d c = record m { nodes = with_node_context m.nodes d c }

-- the same if nothing prevents it
abbrev pub EncryptsOpen : MountState → MountState → ℕ → Context → Reply → Type 0
EncryptsOpen old new d c reply = (m : PlainMount) → Represents old m → children m.nodes d ≡ []
    → is_present m.claims c.policy.id ≡ true → IsWellFormed (with_policy m d c)
    → IsAnswerOrNoMemory m (done (with_policy m d c)) reply new
