-- What a mount's reply implies for the others.
use Rattle.std.proofs.Common.{◌≡◌, ◌≢◌, ℕ, Bool, false, IsTrue, List, [], ◌∷◌, ◌++◌, ap, sym, ◌∙◌, subst, ⊎_elim}
use Rattle.std.proofs.lemmas.Bool.{cases_Bool}
use Rattle.call_history.specs.Entries.{entry}
use Rattle.mount_model.specs.declared.call.Call.{Call}
use Rattle.mount_model.specs.declared.reply.Reply.{Reply}
use Rattle.mount_model.specs.declared.reply.Reply.TheVariants.{Refused}
use Rattle.mount_model.specs.declared.reply.Refusal.TheVariants.{NoMemory}
use Rattle.mount_model.specs.History.{History, MountEntry}
use Rattle.mount_model.specs.Lawful.{IsLawful}
use Rattle.mount_model.specs.Step.{takes_memory}
use Rattle.reply_text.specs.Log.{entry_text}
use Rattle.log_check.specs.Certificate.{BeginsWith}
use Rattle.log_check.specs.Replies.{IsUnreplied}
use Rattle.log_check.proofs.LegalLemmas.{one_lawful_reply}

-- if a mount gave a call a reply other than out of memory, whose line the text doesn't begin with, the call
-- is unreplied, unless the text has out of memory for it
unreplied_so : {M : Type 0} (strict : Bool) (reached_by : History → M → Type 0) (lawful : (history : History) (mount : M) → reached_by history mount → IsLawful history)
    (old new : M) (text : List ℕ) (place caller : ℕ) (call : Call) (given : Reply)
    → ((history : History) → reached_by history old → reached_by (history ++ entry caller call given ∷ []) new)
    → given ≢ Refused NoMemory → (BeginsWith text (entry_text place (entry caller call given)) → ⊥)
    → (strict ≡ false → IsTrue (takes_memory call.op) → BeginsWith text (entry_text place (entry caller call (Refused NoMemory))) → ⊥)
    → IsUnreplied strict reached_by old text place caller call
unreplied_so strict reached_by lawful old new text place caller call given goes no_out_of_memory no_line no_wanting history so reply legal agree memory begins =
    ⊎_elim
    (λ same. no_line (subst (λ (r : Reply). BeginsWith text (entry_text place (entry caller call r))) (sym same) begins))
    (λ wants. ⊎_elim (λ given_wants. no_out_of_memory given_wants)
    (λ same. ⊎_elim (λ yes. absurd (memory yes same))
    (λ lax. no_wanting lax wants.0 (subst (λ (r : Reply). BeginsWith text (entry_text place (entry caller call r))) same begins)) (cases_Bool strict)) wants.1)
    (one_lawful_reply history caller call given reply (lawful (history ++ entry caller call given ∷ []) new (goes history so)) legal agree)

-- the same of entries: the entry of the question has out of memory, and the answered one the given reply
pub unreplied : {M : Type 0} (strict : Bool) (reached_by : History → M → Type 0) (lawful : (history : History) (mount : M) → reached_by history mount → IsLawful history)
    (old new : M) (text : List ℕ) (place : ℕ) (asked answered : MountEntry) (given : Reply)
    → asked.reply ≡ Refused NoMemory → answered ≡ entry asked.who asked.call given
    → ((history : History) → reached_by history old → reached_by (history ++ entry asked.who asked.call given ∷ []) new)
    → answered.reply ≢ Refused NoMemory → (BeginsWith text (entry_text place answered) → ⊥)
    → (strict ≡ false → IsTrue (takes_memory asked.call.op) → BeginsWith text (entry_text place asked) → ⊥)
    → IsUnreplied strict reached_by old text place asked.who asked.call
unreplied strict reached_by lawful old new text place asked answered given wants is goes no_out_of_memory no_line no_wanting =
    unreplied_so strict reached_by lawful old new text place asked.who asked.call given goes
    (λ want. no_out_of_memory (ap (λ (e : MountEntry). e.reply) is ∙ want))
    (subst (λ (e : MountEntry). BeginsWith text (entry_text place e) → ⊥) is no_line)
    (λ lax takes begins. no_wanting lax takes (subst (λ (r : Reply). BeginsWith text (entry_text place (entry asked.who asked.call r))) (sym wants) begins))
