-- Which refusal comes first if several would hold, and that a node is keyed while a handle is open on it.
use Rattle.std.specs.Prelude.{◌≡◌, ◌≢◌, ℕ, true, false, List, [], Ok, None, is_some}
use Rattle.policy_ctx.specs.PolicyFaults.{policy_fault}
use Rattle.plain_tree.specs.Nodes.{Body}
use Rattle.plain_tree.specs.NodesByNumber.{children, context_at, is_dir_at}
use Rattle.mount_model.specs.declared.reply.Refusal.TheVariants.{NoKey, NotEmpty}
use Rattle.mount_model.specs.PlainMount.{PlainMount}
use Rattle.mount_model.specs.OpenHandles.{has_handle}
use Rattle.mount_model.specs.States.{is_keyed}
use Rattle.mount_model.specs.Walk.{PathParts, walk_path}
use Rattle.mount_model.specs.EntryPaths.{is_root, parent}
use Rattle.mount_model.specs.AnswerForms.{refusal_with}
use Rattle.mount_model.specs.PolicyAnswers.{answer_to_set_policy}
use Rattle.mount_model.specs.NameAnswers.{answer_to_make}
use Rattle.mount_model.specs.EncryptedNames.{lacks_key}

-- a node is keyed as long as a handle is open on it, whatever becomes of the claims
abbrev pub HandlesHoldNodeKeys : Type 0
HandlesHoldNodeKeys = (m : PlainMount) (n : ℕ) → has_handle m.handles n ≡ true → is_keyed m n ≡ true

-- if the key isn't present, a creation is NoKey, even if the name is there
abbrev pub CreationsNeedTheKey : Type 0
CreationsNeedTheKey = (m : PlainMount) (path : PathParts) (nonce : List ℕ) (body : Body) (d : ℕ)
    → is_root path ≡ false → parent m path ≡ Ok d → lacks_key m (context_at m.nodes d) ≡ true
    → answer_to_make m path nonce body ≡ refusal_with m NoKey

-- a policy for a directory with entries is NotEmpty, whatever the user holds
abbrev pub OnlyEmptyOnesAreEncrypted : Type 0
OnlyEmptyOnesAreEncrypted = (m : PlainMount) (uid : ℕ) (path : PathParts) (policy nonce : List ℕ) (d : ℕ)
    → walk_path m path ≡ Ok d → is_dir_at m.nodes d ≡ true → (d ≢ 0) → is_some (policy_fault policy) ≡ false
    → context_at m.nodes d ≡ None → (children m.nodes d ≢ [])
    → answer_to_set_policy m uid path policy nonce ≡ refusal_with m NotEmpty
