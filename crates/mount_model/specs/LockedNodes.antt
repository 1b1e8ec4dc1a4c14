-- What calls show of a node that is not keyed, and which nodes are keyed.
use Rattle.std.specs.Prelude.{◌≡◌, ◌⊎◌, ◌↔◌, ℕ, ◌+◌, true, false, List, length, map, take, drop, nat_lt, Ok, Some}
use Rattle.policy_ctx.specs.declared.policy.Context.{Context}
use Rattle.user_claims.specs.ClaimCounts.{is_present}
use Rattle.number_map.specs.Numbered.{get}
use Rattle.plain_tree.specs.Nodes.{Name, Node, Link}
use Rattle.plain_tree.specs.NodesByNumber.{children, context_at, is_dir_at}
use Rattle.mount_model.specs.declared.limits.TheConstants.{MAX_LISTED}
use Rattle.mount_model.specs.declared.reply.Reply.TheVariants as reply
use Rattle.mount_model.specs.declared.reply.Refusal.TheVariants.{NoKey}
use Rattle.mount_model.specs.PlainMount.{PlainMount}
use Rattle.mount_model.specs.OpenHandles.{has_handle}
use Rattle.mount_model.specs.Sealed.{texts}
use Rattle.mount_model.specs.States.{is_keyed}
use Rattle.mount_model.specs.Walk.{PathParts, walk_path}
use Rattle.mount_model.specs.AnswerForms.{refusal_with, unchanged_with}
use Rattle.mount_model.specs.ListAnswers.{in_order, answer_to_list}
use Rattle.mount_model.specs.LookAnswers.{answer_to_read_link}
use Rattle.mount_model.specs.OpenAnswers.{is_link_at, answer_to_open}

-- the no-key texts of a directory's names, in the order of their bytes
abbrev pub texts_in : PlainMount → ℕ → Context → List Name
texts_in m d c = in_order (map (λ e. texts m.raws d c e.0) (children m.nodes d))

-- of node n, which is under the policy of a context, calls show texts alone
pub record ShowsTextsAlone (m : PlainMount) (n : ℕ) (c : Context) : Type 0 where
  -- a listing has the texts of its names, and nothing else
  pub listing : (path : PathParts) (start : ℕ) → walk_path m path ≡ Ok n → is_dir_at m.nodes n ≡ true
      → answer_to_list m path start
      ≡ unchanged_with m (reply.Names (take MAX_LISTED (drop start (texts_in m n c)))
      (nat_lt (start + MAX_LISTED) (length (texts_in m n c))))
  -- it can't be opened
  pub opening : (caller : ℕ) (path : PathParts) → walk_path m path ≡ Ok n → is_link_at m.nodes n ≡ false
      → answer_to_open m caller path ≡ refusal_with m NoKey
  -- a symlink shows the text of its target
  pub target : (path : PathParts) (v : Node) (name : Name) → walk_path m path ≡ Ok n → get m.nodes n ≡ Some v
      → v.body ≡ Link name → answer_to_read_link m path
      ≡ unchanged_with m (reply.Target (texts m.raws n c name))

-- so of each node that is not keyed
abbrev pub LockedNodesShowTexts : Type 0
LockedNodesShowTexts = (m : PlainMount) (n : ℕ) (c : Context) → context_at m.nodes n ≡ Some c
    → is_keyed m n ≡ false → ShowsTextsAlone m n c

-- a node under a policy is keyed exactly if its policy's key is present or a handle is open on it
abbrev pub KeysOrHandlesKeyNodes : Type 0
KeysOrHandlesKeyNodes = (m : PlainMount) (n : ℕ) (c : Context) → context_at m.nodes n ≡ Some c
    → (is_keyed m n ≡ true)
    ↔ ((is_present m.claims c.policy.id ≡ true) ⊎ (has_handle m.handles n ≡ true))
