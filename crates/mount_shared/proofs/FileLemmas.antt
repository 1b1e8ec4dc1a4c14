-- How the contract of a read makes its entry.
use Rattle.std.proofs.Common.{◌≡◌, ◌≢◌, ◌⊎◌, ℕ, Option, Some, None, inl, inr, refl, sym, subst, ◌∙◌, ⊎_elim}
use Rattle.std.specs.Prelude.{IfSome}
use Rattle.mount_model.specs.declared.reply.Reply.{Reply}
use Rattle.mount_model.specs.declared.reply.Reply.TheVariants.{Done, Refused}
use Rattle.mount_model.specs.declared.reply.Refusal.TheVariants.{BadHandle, NoMemory}
use Rattle.mount_model.specs.PlainMount.{PlainMount}
use Rattle.mount_model.specs.AnswerForms.{Answer}
use Rattle.mount_model.specs.FileAnswers.{answer_to_read}
use Rattle.mount_model.proofs.CaseLemmas.{Covers}
use Rattle.mount_model.proofs.FileCases.{at_read}
use Rattle.mount_state.specs.AnswerOf.{IsAnswerOrNoMemory, IsReplyOrNoMemory}
use Rattle.mount_state.specs.Represents.{Represents}
use Rattle.mount_state.specs.declared.state.MountState.{MountState}

-- reading leaves the mount as it is
abbrev Keeps : PlainMount → Answer → Type 0
Keeps m a = a.mount ≡ m

read_keeps : (m : PlainMount) (caller handle offset len : ℕ) → (answer_to_read m caller handle offset len).mount ≡ m
read_keeps m caller handle offset len =
    let covers : Covers (Keeps m) m = record { of_refusals = λ r due. refl; of_replies = λ r told. refl } in
    at_read (Keeps m) m caller handle offset len covers

pub read_given : (s : MountState) (m : PlainMount) (caller handle offset len : ℕ) (reply : Reply) → Represents s m
    → IsReplyOrNoMemory (answer_to_read m caller handle offset len).reply reply
    → IsAnswerOrNoMemory m (answer_to_read m caller handle offset len) reply s
read_given s m caller handle offset len reply st told = ⊎_elim
    (λ is. inl (is, subst (Represents s) (sym (read_keeps m caller handle offset len)) st))
    (λ none. inr (none, st))
    told

-- a close is done or refused with BadHandle, and so it is never out of memory
pub close_told : (o : Option ℕ) (reply : Reply) (P : ℕ → Type 0) → (o ≡ None → reply ≡ Refused BadHandle)
    → IfSome o (λ node. (reply ≡ Done) × P node) → (reply ≡ Done) ⊎ (reply ≡ Refused BadHandle)
close_told None reply P bad closed = inr (bad refl)
close_told (Some node) reply P bad closed = inl closed.0

pub close_sure : (reply : Reply) → (reply ≡ Done) ⊎ (reply ≡ Refused BadHandle) → reply ≢ Refused NoMemory
close_sure reply told wants = ⊎_elim
    (λ is. let both : Done ≡ Refused NoMemory = sym is ∙ wants in absurd (cc))
    (λ is. let both : Refused BadHandle ≡ Refused NoMemory = sym is ∙ wants in absurd (cc))
    told
