-- What a step of the mount does to it.
use Rattle.std.proofs.Common.{◌≡◌, ◌≢◌, ℕ, true, false, cond, [], sym, refl, ap, ◌∙◌, ⊎_elim}
use Rattle.std.proofs.lemmas.Bool.{cond-true, cond-false, true≢false}
use Rattle.plain_tree.specs.Nodes.{Dir, File, Link}
use Rattle.user_claims.specs.Claims.{ClaimSet}
use Rattle.mount_model.specs.declared.call.Call.{Call}
use Rattle.mount_model.specs.declared.call.Op.{Op}
use Rattle.mount_model.specs.declared.call.Op.TheVariants as op
use Rattle.mount_model.specs.declared.reply.Reply.{Reply}
use Rattle.mount_model.specs.declared.reply.Reply.TheVariants.{Done, Refused}
use Rattle.mount_model.specs.declared.reply.Reply.TheVariants as reply
use Rattle.mount_model.specs.declared.reply.Refusal.{Refusal}
use Rattle.mount_model.specs.declared.reply.Refusal.TheVariants.{NoMemory}
use Rattle.mount_model.specs.PlainMount.{PlainMount}
use Rattle.mount_model.specs.AnswerForms.{Answer, unchanged_with}
use Rattle.mount_model.specs.KeyAnswers.{status_of}
use Rattle.mount_model.specs.Answer.{answer_to, answer_of}
use Rattle.mount_model.specs.Step.{takes_memory, IsMountStep}
use Rattle.mount_model.specs.History.{MountEntry, is_out_of_memory, mount_after_entry}
use Rattle.mount_model.specs.ClaimHistory.{is_refused, claims_after_op, claims_after_entry}
use Rattle.mount_model.proofs.CaseLemmas.{CoversRefusals, Covers, at_add_key, at_remove_key, at_remove_key_all, at_set_policy, at_get_policy}
use Rattle.mount_model.proofs.NameCases.{at_make, at_unlink, at_rmdir, at_rename}
use Rattle.mount_model.proofs.FileCases.{at_read_link, at_list, at_stat, at_open_node, at_read, at_write, at_close, at_meta_load, at_meta_store}

-- a reply that is no refusal is not out of memory
not_refused : (r : Reply) → is_refused r ≡ false → is_out_of_memory r ≡ false
not_refused (reply.Added id) unchanged_with = refl
not_refused (reply.Removed others busy) unchanged_with = refl
not_refused (reply.Status state by_self users) unchanged_with = refl
not_refused reply.Done unchanged_with = refl
not_refused (reply.PolicyIs policy) unchanged_with = refl
not_refused (reply.Names names more) unchanged_with = refl
not_refused (reply.Stat kind node size encrypted keyed) unchanged_with = refl
not_refused (reply.Opened number) unchanged_with = refl
not_refused (reply.Content bytes) unchanged_with = refl
not_refused (reply.Target bytes) unchanged_with = refl
not_refused (reply.Held version bytes) unchanged_with = refl
not_refused (reply.Stored version) unchanged_with = refl
not_refused (reply.Refused r) unchanged_with = absurd (true≢false unchanged_with)

-- ---- no answer is out of memory

abbrev AnswerHadMemory : Answer → Type 0
AnswerHadMemory a = is_out_of_memory a.reply ≡ false

due_covers : (m : PlainMount) → Covers AnswerHadMemory m
due_covers m = record { of_refusals = λ r due. due; of_replies = not_refused }

pub answer_due : (m : PlainMount) (caller uid : ℕ) (o : Op) → AnswerHadMemory (answer_to m caller uid o)
answer_due m caller uid (op.AddKey raw) = at_add_key AnswerHadMemory m uid raw (due_covers m).of_refusals (λ _ _. refl)
answer_due m caller uid (op.RemoveKey id) = at_remove_key AnswerHadMemory m uid id (due_covers m).of_refusals refl
answer_due m caller uid (op.RemoveKeyAll id) = at_remove_key_all AnswerHadMemory m uid id (due_covers m).of_refusals refl
answer_due m caller uid (op.KeyStatus id) = (due_covers m).of_replies (status_of m uid id) refl
answer_due m caller uid (op.SetPolicy path policy nonce) = at_set_policy AnswerHadMemory m uid path policy nonce (due_covers m) (λ _ _. refl)
answer_due m caller uid (op.GetPolicy path) = at_get_policy AnswerHadMemory m path (due_covers m)
answer_due m caller uid (op.Mkdir path nonce) = at_make AnswerHadMemory m path nonce (Dir []) (due_covers m) (λ _ _. refl)
answer_due m caller uid (op.Create path nonce) = at_make AnswerHadMemory m path nonce (File []) (due_covers m) (λ _ _. refl)
answer_due m caller uid (op.Symlink path target nonce) = at_make AnswerHadMemory m path nonce (Link target) (due_covers m) (λ _ _. refl)
answer_due m caller uid (op.ReadLink path) = at_read_link AnswerHadMemory m path (due_covers m)
answer_due m caller uid (op.Unlink path) = at_unlink AnswerHadMemory m path (due_covers m) (λ _ _ _. refl)
answer_due m caller uid (op.Rmdir path) = at_rmdir AnswerHadMemory m path (due_covers m) (λ _ _ _. refl)
answer_due m caller uid (op.Rename old_path new_path) = at_rename AnswerHadMemory m old_path new_path (due_covers m) (λ _ _ _ _. refl)
answer_due m caller uid (op.List path start) = at_list AnswerHadMemory m path start (due_covers m)
answer_due m caller uid (op.Stat path) = at_stat AnswerHadMemory m path (due_covers m)
answer_due m caller uid (op.OpenNode path) = at_open_node AnswerHadMemory m caller path (due_covers m) (λ _ _. refl)
answer_due m caller uid (op.Read handle offset len) = at_read AnswerHadMemory m caller handle offset len (due_covers m)
answer_due m caller uid (op.Write handle offset bytes) = at_write AnswerHadMemory m caller handle offset bytes (due_covers m) (λ _ _. refl)
answer_due m caller uid (op.Close handle) = at_close AnswerHadMemory m caller handle (due_covers m) (λ _ _. refl)
answer_due m caller uid op.DropCaches = (due_covers m).of_replies Done refl
answer_due m caller uid (op.MetaLoad name) = at_meta_load AnswerHadMemory m name (due_covers m)
answer_due m caller uid (op.MetaStore name expected bytes) = at_meta_store AnswerHadMemory m name expected bytes (due_covers m) (λ _ _. refl)

-- ---- a refusal leaves the mount as it is

abbrev KeepsIfRefused : PlainMount → Answer → Type 0
KeepsIfRefused m a = is_refused a.reply ≡ true → a.mount ≡ m

keeps_covers : (m : PlainMount) → Covers (KeepsIfRefused m) m
keeps_covers m = record { of_refusals = λ r due _. refl; of_replies = λ r unchanged_with _. refl }

pub refusal_keeps : (m : PlainMount) (caller uid : ℕ) (o : Op) → KeepsIfRefused m (answer_to m caller uid o)
refusal_keeps m caller uid (op.AddKey raw) = at_add_key (KeepsIfRefused m) m uid raw (keeps_covers m).of_refusals (λ _ _. (λ e. absurd (true≢false (sym e))))
refusal_keeps m caller uid (op.RemoveKey id) = at_remove_key (KeepsIfRefused m) m uid id (keeps_covers m).of_refusals (λ e. absurd (true≢false (sym e)))
refusal_keeps m caller uid (op.RemoveKeyAll id) = at_remove_key_all (KeepsIfRefused m) m uid id (keeps_covers m).of_refusals (λ e. absurd (true≢false (sym e)))
refusal_keeps m caller uid (op.KeyStatus id) = (keeps_covers m).of_replies (status_of m uid id) refl
refusal_keeps m caller uid (op.SetPolicy path policy nonce) = at_set_policy (KeepsIfRefused m) m uid path policy nonce (keeps_covers m) (λ _ _. (λ e. absurd (true≢false (sym e))))
refusal_keeps m caller uid (op.GetPolicy path) = at_get_policy (KeepsIfRefused m) m path (keeps_covers m)
refusal_keeps m caller uid (op.Mkdir path nonce) = at_make (KeepsIfRefused m) m path nonce (Dir []) (keeps_covers m) (λ _ _. (λ e. absurd (true≢false (sym e))))
refusal_keeps m caller uid (op.Create path nonce) = at_make (KeepsIfRefused m) m path nonce (File []) (keeps_covers m) (λ _ _. (λ e. absurd (true≢false (sym e))))
refusal_keeps m caller uid (op.Symlink path target nonce) = at_make (KeepsIfRefused m) m path nonce (Link target) (keeps_covers m) (λ _ _. (λ e. absurd (true≢false (sym e))))
refusal_keeps m caller uid (op.ReadLink path) = at_read_link (KeepsIfRefused m) m path (keeps_covers m)
refusal_keeps m caller uid (op.Unlink path) = at_unlink (KeepsIfRefused m) m path (keeps_covers m) (λ _ _ _. (λ e. absurd (true≢false (sym e))))
refusal_keeps m caller uid (op.Rmdir path) = at_rmdir (KeepsIfRefused m) m path (keeps_covers m) (λ _ _ _. (λ e. absurd (true≢false (sym e))))
refusal_keeps m caller uid (op.Rename old_path new_path) = at_rename (KeepsIfRefused m) m old_path new_path (keeps_covers m) (λ _ _ _ _. (λ e. absurd (true≢false (sym e))))
refusal_keeps m caller uid (op.List path start) = at_list (KeepsIfRefused m) m path start (keeps_covers m)
refusal_keeps m caller uid (op.Stat path) = at_stat (KeepsIfRefused m) m path (keeps_covers m)
refusal_keeps m caller uid (op.OpenNode path) = at_open_node (KeepsIfRefused m) m caller path (keeps_covers m) (λ _ _. (λ e. absurd (true≢false (sym e))))
refusal_keeps m caller uid (op.Read handle offset len) = at_read (KeepsIfRefused m) m caller handle offset len (keeps_covers m)
refusal_keeps m caller uid (op.Write handle offset bytes) = at_write (KeepsIfRefused m) m caller handle offset bytes (keeps_covers m) (λ _ _. (λ e. absurd (true≢false (sym e))))
refusal_keeps m caller uid (op.Close handle) = at_close (KeepsIfRefused m) m caller handle (keeps_covers m) (λ _ _. (λ e. absurd (true≢false (sym e))))
refusal_keeps m caller uid op.DropCaches = (keeps_covers m).of_replies Done refl
refusal_keeps m caller uid (op.MetaLoad name) = at_meta_load (KeepsIfRefused m) m name (keeps_covers m)
refusal_keeps m caller uid (op.MetaStore name expected bytes) = at_meta_store (KeepsIfRefused m) m name expected bytes (keeps_covers m) (λ _ _. (λ e. absurd (true≢false (sym e))))

-- ---- the claims of the answer's mount are those that its entry leaves

abbrev Leaves : ClaimSet → ClaimSet → Answer → Type 0
Leaves before made a = a.mount.claims ≡ cond (is_refused a.reply) before made

-- if the call makes no claims
leaves_covers : (m : PlainMount) → Covers (Leaves m.claims m.claims) m
leaves_covers m = record { of_refusals = λ r due. refl; of_replies = λ r unchanged_with. sym (cond-false (is_refused r) m.claims m.claims unchanged_with) }

-- each refusal leaves them, whatever the call would make
leaves_refusals : (m : PlainMount) (made : ClaimSet) → CoversRefusals (Leaves m.claims made) m
leaves_refusals m made r due = refl

pub answer_leaves : (m : PlainMount) (caller uid : ℕ) (o : Op) → Leaves m.claims (claims_after_op m.claims uid o) (answer_to m caller uid o)
answer_leaves m caller uid (op.AddKey raw) = at_add_key (Leaves m.claims (claims_after_op m.claims uid (op.AddKey raw))) m uid raw (leaves_refusals m (claims_after_op m.claims uid (op.AddKey raw))) (λ _ _. refl)
answer_leaves m caller uid (op.RemoveKey id) = at_remove_key (Leaves m.claims (claims_after_op m.claims uid (op.RemoveKey id))) m uid id (leaves_refusals m (claims_after_op m.claims uid (op.RemoveKey id))) refl
answer_leaves m caller uid (op.RemoveKeyAll id) = at_remove_key_all (Leaves m.claims (claims_after_op m.claims uid (op.RemoveKeyAll id))) m uid id (leaves_refusals m (claims_after_op m.claims uid (op.RemoveKeyAll id))) refl
answer_leaves m caller uid (op.KeyStatus id) = (leaves_covers m).of_replies (status_of m uid id) refl
answer_leaves m caller uid (op.SetPolicy path policy nonce) = at_set_policy (Leaves m.claims m.claims) m uid path policy nonce (leaves_covers m) (λ _ _. refl)
answer_leaves m caller uid (op.GetPolicy path) = at_get_policy (Leaves m.claims m.claims) m path (leaves_covers m)
answer_leaves m caller uid (op.Mkdir path nonce) = at_make (Leaves m.claims m.claims) m path nonce (Dir []) (leaves_covers m) (λ _ _. refl)
answer_leaves m caller uid (op.Create path nonce) = at_make (Leaves m.claims m.claims) m path nonce (File []) (leaves_covers m) (λ _ _. refl)
answer_leaves m caller uid (op.Symlink path target nonce) = at_make (Leaves m.claims m.claims) m path nonce (Link target) (leaves_covers m) (λ _ _. refl)
answer_leaves m caller uid (op.ReadLink path) = at_read_link (Leaves m.claims m.claims) m path (leaves_covers m)
answer_leaves m caller uid (op.Unlink path) = at_unlink (Leaves m.claims m.claims) m path (leaves_covers m) (λ _ _ _. refl)
answer_leaves m caller uid (op.Rmdir path) = at_rmdir (Leaves m.claims m.claims) m path (leaves_covers m) (λ _ _ _. refl)
answer_leaves m caller uid (op.Rename old_path new_path) = at_rename (Leaves m.claims m.claims) m old_path new_path (leaves_covers m) (λ _ _ _ _. refl)
answer_leaves m caller uid (op.List path start) = at_list (Leaves m.claims m.claims) m path start (leaves_covers m)
answer_leaves m caller uid (op.Stat path) = at_stat (Leaves m.claims m.claims) m path (leaves_covers m)
answer_leaves m caller uid (op.OpenNode path) = at_open_node (Leaves m.claims m.claims) m caller path (leaves_covers m) (λ _ _. refl)
answer_leaves m caller uid (op.Read handle offset len) = at_read (Leaves m.claims m.claims) m caller handle offset len (leaves_covers m)
answer_leaves m caller uid (op.Write handle offset bytes) = at_write (Leaves m.claims m.claims) m caller handle offset bytes (leaves_covers m) (λ _ _. refl)
answer_leaves m caller uid (op.Close handle) = at_close (Leaves m.claims m.claims) m caller handle (leaves_covers m) (λ _ _. refl)
answer_leaves m caller uid op.DropCaches = (leaves_covers m).of_replies Done refl
answer_leaves m caller uid (op.MetaLoad name) = at_meta_load (Leaves m.claims m.claims) m name (leaves_covers m)
answer_leaves m caller uid (op.MetaStore name expected bytes) = at_meta_store (Leaves m.claims m.claims) m name expected bytes (leaves_covers m) (λ _ _. refl)

-- ---- a step

pub refused-step : (m : PlainMount) (caller : ℕ) (call : Call) (refusal : Refusal) (after : PlainMount) → IsMountStep m caller call (Refused refusal) after → after ≡ m
refused-step m caller call refusal after step = ⊎_elim
    (λ a. a.1 ∙ refusal_keeps m caller call.uid call.op (sym (ap is_refused a.0)))
    (λ w. w.2)
    step

-- only calls that may take memory can be out of memory
pub wanting-step : (m : PlainMount) (caller : ℕ) (call : Call) (after : PlainMount) → IsMountStep m caller call (Refused NoMemory) after → takes_memory call.op ≡ true
wanting-step m caller call after step = ⊎_elim
    (λ a. absurd (true≢false (ap is_out_of_memory a.0 ∙ answer_due m caller call.uid call.op)))
    (λ w. w.0)
    step

-- a step leaves the mount that its entry leaves
pub mount_after_entry-step : (m : PlainMount) (e : MountEntry) (after : PlainMount) → IsMountStep m e.who e.call e.reply after → after ≡ mount_after_entry m e
mount_after_entry-step m e after step = ⊎_elim
    (λ a. let due : is_out_of_memory e.reply ≡ false = ap is_out_of_memory a.0 ∙ answer_due m e.who e.call.uid e.call.op in
    a.1 ∙ sym (cond-false (is_out_of_memory e.reply) m (answer_of m e.who e.call).mount due))
    (λ w. let want : is_out_of_memory e.reply ≡ true = ap is_out_of_memory w.1 in
    w.2 ∙ sym (cond-true (is_out_of_memory e.reply) m (answer_of m e.who e.call).mount want))
    step

-- the claims after a step are those that its entry leaves
pub claims_after_entry-step : (m : PlainMount) (e : MountEntry) (after : PlainMount) → IsMountStep m e.who e.call e.reply after → after.claims ≡ claims_after_entry m.claims e
claims_after_entry-step m e after step = ⊎_elim
    (λ a. ap (λ (x : PlainMount). x.claims) a.1 ∙ (answer_leaves m e.who e.call.uid e.call.op
    ∙ ap (λ r. cond (is_refused r) m.claims (claims_after_op m.claims e.call.uid e.call.op)) (sym a.0)))
    (λ w. ap (λ (x : PlainMount). x.claims) w.2 ∙ ap (λ r. cond (is_refused r) m.claims (claims_after_op m.claims e.call.uid e.call.op)) (sym w.1))
    step

-- a reply that isn't out of memory is the answer's
pub answered-step : (m : PlainMount) (e : MountEntry) (after : PlainMount) → IsMountStep m e.who e.call e.reply after → e.reply ≢ Refused NoMemory → e.reply ≡ (answer_of m e.who e.call).reply
answered-step m e after step no_out_of_memory = ⊎_elim (λ a. a.0) (λ w. absurd (no_out_of_memory w.1)) step
