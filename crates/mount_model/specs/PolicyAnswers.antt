-- The calls on policies: what each answers, its refusals in the order in which they are tried, and the
-- mount that it leaves.
use Rattle.std.specs.Prelude.{ℕ, Bool, List, length, Option, Some, None, is_some, not, ◌==◌, if◌then◌else◌}
use Rattle.policy_ctx.specs.declared.policy.KeyId.{KeyId}
use Rattle.policy_ctx.specs.declared.policy.Context.{Context}
use Rattle.policy_ctx.specs.Policy.{policy_bytes}
use Rattle.policy_ctx.specs.PolicyFaults.{policy_fault}
use Rattle.user_claims.specs.Claims.{has_claim}
use Rattle.user_claims.specs.ClaimCounts.{is_present}
use Rattle.plain_tree.specs.NodesByNumber.{children, context_at, is_dir_at}
use Rattle.plain_tree.specs.Changes.{with_node_context}
use Rattle.mount_model.specs.declared.reply.Reply.TheVariants.{PolicyIs}
use Rattle.mount_model.specs.declared.reply.Refusal.TheVariants.{NoKey, Inval, Exists}
use Rattle.mount_model.specs.declared.reply.Refusal.TheVariants.{NotDir, NotEmpty, NoData}
use Rattle.mount_model.specs.PlainMount.{PlainMount}
use Rattle.mount_model.specs.Walk.{PathParts, walk_path}
use Rattle.mount_model.specs.AnswerForms.{Answer, refusal_with, unchanged_with, done, at_node}
use Rattle.mount_model.specs.SpelledPolicy.{context_of, is_same_policy}

-- ---- SetPolicy

-- user 0 needs the key to be present, another user a claim
abbrev pub may_use : PlainMount → ℕ → KeyId → Bool
may_use m uid id = if uid == 0 then is_present m.claims id else has_claim m.claims id uid

-- on the directory d, which has the one context and is to have the other
abbrev pub answer_to_encrypt : PlainMount → ℕ → ℕ → Context → Option Context → Answer
answer_to_encrypt m uid d new (Some old) =
    if is_same_policy old.policy new.policy then done m else refusal_with m Exists
answer_to_encrypt m uid d new None =
    if not (length (children m.nodes d) == 0) then refusal_with m NotEmpty else
    if not (may_use m uid new.policy.id) then refusal_with m NoKey else
    done (record m { nodes = with_node_context m.nodes d new })

-- what is answered at node d
abbrev pub answer_to_set_at : PlainMount → ℕ → List ℕ → List ℕ → ℕ → Answer
answer_to_set_at m uid policy nonce d =
    if not (is_dir_at m.nodes d) then refusal_with m NotDir else
    if d == 0 then refusal_with m Inval else
    if is_some (policy_fault policy) then refusal_with m Inval else
    answer_to_encrypt m uid d (context_of policy nonce) (context_at m.nodes d)

abbrev pub answer_to_set_policy : PlainMount → ℕ → PathParts → List ℕ → List ℕ → Answer
answer_to_set_policy m uid path policy nonce
    = at_node m (walk_path m path) (answer_to_set_at m uid policy nonce)

-- ---- GetPolicy

abbrev pub policy_answer : PlainMount → Option Context → Answer
policy_answer m None = refusal_with m NoData
policy_answer m (Some c) = unchanged_with m (PolicyIs (policy_bytes c.policy))

abbrev pub answer_to_get_policy : PlainMount → PathParts → Answer
answer_to_get_policy m path = at_node m (walk_path m path) λ n. policy_answer m (context_at m.nodes n)
