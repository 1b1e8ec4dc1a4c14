-- Legal histories are lawful, and so are beginnings of lawful histories whose raw keys agree.
use Rattle.std.proofs.Common.{◌≡◌, ℕ, Bool, true, false, cond, not, ◌&&◌, ◌==◌, nat_lt, IsTrue, List, [], ◌∷◌, ◌++◌, append_assoc, length, Option, Some, None, inl, inr, sym, refl, ap, ◌∙◌, subst, ⊎_elim}
use Rattle.std.proofs.lemmas.Bool.{true≢false}
use Rattle.policy_ctx.specs.declared.policy.KeyId.{KeyId}
use Rattle.fsc_keys.specs.Keys.{key_id_of}
use Rattle.meta_files.specs.Records.{record_of, version_of}
use Rattle.meta_files.specs.declared.files.TheConstants.{MAX_RECORD_BYTES}
use Rattle.user_claims.specs.Claims.{ClaimSet, no_claims, has_claim}
use Rattle.user_claims.specs.ClaimCounts.{is_present}
use Rattle.mount_model.specs.declared.call.Op.{Op}
use Rattle.mount_model.specs.declared.call.Op.TheVariants as op
use Rattle.mount_model.specs.declared.reply.Reply.TheVariants.{Refused}
use Rattle.mount_model.specs.declared.reply.Refusal.TheVariants.{NoKey, Access, Quota, Inval, TooBig, Changed, NoSpace, NoMemory}
use Rattle.mount_model.specs.PlainMount.{PlainMount, empty_mount}
use Rattle.mount_model.specs.OpenHandles.{node_of}
use Rattle.mount_model.specs.AnswerForms.{Answer, refusal_with, done}
use Rattle.mount_model.specs.Answer.{answer_to}
use Rattle.mount_model.specs.States.{is_busy}
use Rattle.mount_model.specs.KeyAnswers.{is_raw_key, is_over_quota, answer_to_added_key, answer_to_add_key}
use Rattle.mount_model.specs.RemovalAnswers.{is_absent, answer_to_removed_claim, answer_to_all_removed, answer_to_remove_key, answer_to_remove_key_all}
use Rattle.mount_model.specs.KeyReplies.{added_unless, addition_by, removal_by, clearing_by}
use Rattle.mount_model.specs.FileAnswers.{at_handle}
use Rattle.mount_model.specs.CloseAnswers.{with_closed}
use Rattle.mount_model.specs.RecordAnswers.{record_answer, is_out_of_records, stored}
use Rattle.mount_model.specs.Step.{takes_memory, IsMountStep}
use Rattle.mount_model.specs.History.{MountEntry, History, mount_after_entry, IsLegalFrom, IsLegal}
use Rattle.mount_model.specs.ClaimHistory.{claims_after_entry}
use Rattle.mount_model.specs.Lawful.{KeysAgree, is_load_reply, ReportsStore, ReportsClaims, ReportsClaimOf, ReportsClaimsFrom, IsLawful}
use Rattle.mount_model.proofs.StepLemmas.{claims_after_entry-step}

-- ---- replies of legal histories agree with the claims

reply_of : (b : Bool) (x y : Answer) → (cond b x y).reply ≡ cond b x.reply y.reply
reply_of true x y = refl
reply_of false x y = refl

-- the answers to the calls on keys are those that the claims determine
pub addition_reply : (m : PlainMount) (uid : ℕ) (raw : List ℕ) → (answer_to_add_key m uid raw).reply ≡ addition_by m.claims uid raw
addition_reply m uid raw = by (not (is_raw_key raw)) (is_over_quota m.claims (key_id_of raw) uid)
  where
    by : (a b : Bool) → (cond a (refusal_with m Inval) (cond b (refusal_with m Quota) (answer_to_added_key m uid raw))).reply
        ≡ added_unless (cond a (Some Inval) (cond b (Some Quota) None)) (key_id_of raw)
    by true b = refl
    by false true = refl
    by false false = refl

pub removal_reply : (m : PlainMount) (uid : ℕ) (id : KeyId) → (answer_to_remove_key m uid id).reply ≡ removal_by m.claims (is_busy m id) uid id
removal_reply m uid id =
    let gone : Bool = is_absent m.claims (is_busy m id) id in
    let held : Bool = is_present m.claims id && not (has_claim m.claims id uid) in
    reply_of gone (refusal_with m NoKey) (cond held (refusal_with m NoKey) (answer_to_removed_claim m uid id))
    ∙ ap (cond gone (Refused NoKey)) (reply_of held (refusal_with m NoKey) (answer_to_removed_claim m uid id))

pub clearing_reply : (m : PlainMount) (uid : ℕ) (id : KeyId) → (answer_to_remove_key_all m uid id).reply ≡ clearing_by m.claims (is_busy m id) uid id
clearing_reply m uid id =
    let gone : Bool = is_absent m.claims (is_busy m id) id in
    reply_of (not (uid == 0)) (refusal_with m Access) (cond gone (refusal_with m NoKey) (answer_to_all_removed m id))
    ∙ ap (cond (not (uid == 0)) (Refused Access)) (reply_of gone (refusal_with m NoKey) (answer_to_all_removed m id))

close_tells : (m : PlainMount) (caller handle : ℕ) (o : Option ℕ)
    → ReportsClaims m.claims 0 (op.Close handle) (at_handle m o (λ n. done (with_closed m caller handle n))).reply
close_tells m caller handle None = inr refl
close_tells m caller handle (Some n) = inl refl

load_tells : (m : PlainMount) (o : Option (ℕ × List ℕ)) → is_load_reply (record_answer m o).reply ≡ true
load_tells m None = refl
load_tells m (Some kept) = refl

store_tells : (m : PlainMount) (name bytes : List ℕ) (big other full : Bool)
    → ReportsStore big (cond big (refusal_with m TooBig) (cond other (refusal_with m (Changed (version_of m.records name)))
    (cond full (refusal_with m NoSpace) (stored m name bytes)))).reply
store_tells m name bytes true other full = inl refl
store_tells m name bytes false true full = refl
store_tells m name bytes false false true = refl
store_tells m name bytes false false false = refl

answer_tells : (m : PlainMount) (caller uid : ℕ) (o : Op) → ReportsClaims m.claims uid o (answer_to m caller uid o).reply
answer_tells m caller uid (op.AddKey raw) = inl (addition_reply m uid raw)
answer_tells m caller uid (op.RemoveKey id) = (is_busy m id, removal_reply m uid id)
answer_tells m caller uid (op.RemoveKeyAll id) = (is_busy m id, clearing_reply m uid id)
answer_tells m caller uid (op.KeyStatus id) = (is_busy m id, refl)
answer_tells m caller uid (op.Close handle) = close_tells m caller handle (node_of m.handles caller handle)
answer_tells m caller uid op.DropCaches = refl
answer_tells m caller uid (op.MetaLoad name) = load_tells m (record_of m.records name)
answer_tells m caller uid (op.MetaStore name expected bytes) =
    store_tells m name bytes (nat_lt MAX_RECORD_BYTES (length bytes)) (not (version_of m.records name == expected)) (is_out_of_records m name)
answer_tells m caller uid other = tt

-- a call that may take memory may be out of memory
store_wants : (big : Bool) → ReportsStore big (Refused NoMemory)
store_wants true = inr refl
store_wants false = refl

pub want_tells : (claims : ClaimSet) (uid : ℕ) (o : Op) → IsTrue (takes_memory o) → ReportsClaims claims uid o (Refused NoMemory)
want_tells claims uid (op.AddKey raw) takes = inr refl
want_tells claims uid (op.RemoveKey id) takes = absurd (true≢false (sym takes))
want_tells claims uid (op.RemoveKeyAll id) takes = absurd (true≢false (sym takes))
want_tells claims uid (op.KeyStatus id) takes = absurd (true≢false (sym takes))
want_tells claims uid (op.Close handle) takes = absurd (true≢false (sym takes))
want_tells claims uid op.DropCaches takes = absurd (true≢false (sym takes))
want_tells claims uid (op.MetaLoad name) takes = refl
want_tells claims uid (op.MetaStore name expected bytes) takes = store_wants (nat_lt MAX_RECORD_BYTES (length bytes))
want_tells claims uid other takes = tt

entry_tells : (m : PlainMount) (e : MountEntry) (after : PlainMount) → IsMountStep m e.who e.call e.reply after → ReportsClaimOf m.claims e
entry_tells m e after step = ⊎_elim
    (λ a. subst (ReportsClaims m.claims e.call.uid e.call.op) (sym a.0) (answer_tells m e.who e.call.uid e.call.op))
    (λ w. subst (ReportsClaims m.claims e.call.uid e.call.op) (sym w.1) (want_tells m.claims e.call.uid e.call.op w.0))
    step

tells_from : (m : PlainMount) (h : History) → IsLegalFrom m h → ReportsClaimsFrom m.claims h
tells_from m [] legal = tt
tells_from m (e ∷ h) legal = (
  entry_tells m e (mount_after_entry m e) legal.0,
  subst (λ cs. ReportsClaimsFrom cs h) (claims_after_entry-step m e (mount_after_entry m e) legal.0) (tells_from (mount_after_entry m e) h legal.1),
)

legal_begins : (m : PlainMount) (g h : History) → IsLegalFrom m (g ++ h) → IsLegalFrom m g
legal_begins m [] h legal = tt
legal_begins m (e ∷ g) h legal = (legal.0, legal_begins (mount_after_entry m e) g h legal.1)

pub legal_lawful : (h : History) → IsLegal h → IsLawful h
legal_lawful h legal = record {
  legal = λ _. legal;
  begun = λ g r is _. legal_begins empty_mount g r (subst IsLegal is legal);
  claims = tells_from empty_mount h legal;
}

-- ---- beginnings

tells_begins : (claims : ClaimSet) (g h : History) → ReportsClaimsFrom claims (g ++ h) → ReportsClaimsFrom claims g
tells_begins claims [] h tells = tt
tells_begins claims (e ∷ g) h tells = (tells.0, tells_begins (claims_after_entry claims e) g h tells.1)

pub lawful_begins : (g h : History) → IsLawful (g ++ h) → IsLawful g
lawful_begins g h lawful = record {
  legal = lawful.begun g h refl;
  begun = λ s r is. lawful.begun s (r ++ h) (ap (λ (l : History). l ++ h) is ∙ append_assoc s r h);
  claims = tells_begins no_claims g h lawful.claims;
}
