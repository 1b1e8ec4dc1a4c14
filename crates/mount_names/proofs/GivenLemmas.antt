-- What a call answers at the node that a walk reached.
use Rattle.std.proofs.Common.{◌≡◌, ℕ, Ok, Option, Some, None, inl, inr, refl, sym, ap, subst, ◌∙◌}
use Rattle.std.proofs.lemmas.Bool.{true≢false}
use Rattle.plain_tree.specs.Nodes.{Node, Body, Dir, File, Link}
use Rattle.policy_ctx.specs.declared.policy.Context.{Context}
use Rattle.mount_model.specs.ClaimHistory.{is_refused}
use Rattle.mount_model.specs.declared.reply.Refusal.{Refusal}
use Rattle.mount_model.specs.declared.reply.Reply.{Reply}
use Rattle.mount_model.specs.declared.reply.Reply.TheVariants.{Refused}
use Rattle.mount_model.specs.PlainMount.{PlainMount}
use Rattle.mount_model.specs.AnswerForms.{Answer, refusal_with, done, at_node}
use Rattle.mount_model.specs.LookAnswers.{stat_answer, target_answer}
use Rattle.mount_model.specs.PolicyAnswers.{policy_answer}
use Rattle.mount_model.specs.Walk.{WalkResult}
use Rattle.mount_state.specs.Represents.{Represents}
use Rattle.mount_state.specs.declared.state.MountState.{MountState}
use Rattle.mount_state.specs.AnswerOf.{IsAnswerOf, IsAnswerOrNoMemory, IsReplyOrNoMemory, IsExpectedRefusal}

-- ---- answers that leave the mount

pub node_leaves : (m : PlainMount) (n : ℕ) (o : Option Node) → (stat_answer m n o).mount ≡ m
node_leaves m n None = refl
node_leaves m n (Some v) = refl

pub policy_leaves : (m : PlainMount) (o : Option Context) → (policy_answer m o).mount ≡ m
policy_leaves m None = refl
policy_leaves m (Some c) = refl

pub target_leaves : (m : PlainMount) (n : ℕ) (o : Option Node) → (target_answer m n o).mount ≡ m
target_leaves m n None = refl
target_leaves m n (Some v) = at v.body
  where
    at : (b : Body) → (target_answer m n (Some (record v { body = b }))).mount ≡ m
    at (Dir children) = refl
    at (File contents) = refl
    at (Link target) = refl

-- ---- at the node

module _ (m : PlainMount) (f : ℕ → Answer) (leaves : (n : ℕ) → (f n).mount ≡ m) (w : WalkResult) (n : ℕ) (led : Ok n ≡ w) (new : MountState) (represents : Represents new m) where
  pub given_at : (reply : Reply) → reply ≡ (f n).reply → IsAnswerOf (at_node m w f) reply new
  given_at reply is = subst (λ (x : WalkResult). IsAnswerOf (at_node m x f) reply new) led (is, subst (Represents new) (sym (leaves n)) represents)

  pub told_at : (reply : Reply) → IsReplyOrNoMemory (f n).reply reply → IsAnswerOrNoMemory m (at_node m w f) reply new
  told_at reply told = elim told [
    | inl is ↦ inl (given_at reply is)
    | inr wanting ↦ inr (wanting, represents)
  ]

-- what is expected at the node is expected of the call
pub due_at : (m : PlainMount) (f : ℕ → Answer) (w : WalkResult) (n : ℕ) → Ok n ≡ w → (reply : Reply) → IsExpectedRefusal (f n) reply → IsExpectedRefusal (at_node m w f) reply
due_at m f w n led reply due = subst (λ (x : WalkResult). IsExpectedRefusal (at_node m x f) reply) led due

-- what was answered at the node is the call's answer
pub answered_at : (m : PlainMount) (f : ℕ → Answer) (w : WalkResult) (n : ℕ) → Ok n ≡ w → (new : MountState) (reply : Reply) → IsAnswerOrNoMemory m (f n) reply new
    → IsAnswerOrNoMemory m (at_node m w f) reply new
answered_at m f w n led new reply given = subst (λ (x : WalkResult). IsAnswerOrNoMemory m (at_node m x f) reply new) led given

-- ---- what was answered

pub due_refused : (m : PlainMount) (answer : Answer) (r : Refusal) → answer ≡ refusal_with m r → IsExpectedRefusal answer (Refused r)
due_refused m answer r is _ = sym (ap (λ (a : Answer). a.reply) is)

pub due_done : (after : PlainMount) (answer : Answer) (reply : Reply) → answer ≡ done after → IsExpectedRefusal answer reply
due_done after answer reply is bad = absurd (true≢false (sym bad ∙ ap (λ (a : Answer). is_refused a.reply) is))

pub refused_so : (m : PlainMount) (answer : Answer) (r : Refusal) → answer ≡ refusal_with m r → (new : MountState) → Represents new m → IsAnswerOrNoMemory m answer (Refused r) new
refused_so m answer r is new st = inl (sym (ap (λ (a : Answer). a.reply) is), subst (Represents new) (sym (ap (λ (a : Answer). a.mount) is)) st)

pub is_answer_by : (m : PlainMount) (a b : Answer) (reply : Reply) (new : MountState) → a ≡ b → IsAnswerOrNoMemory m b reply new → IsAnswerOrNoMemory m a reply new
is_answer_by m a b reply new is given = subst (λ (x : Answer). IsAnswerOrNoMemory m x reply new) (sym is) given
