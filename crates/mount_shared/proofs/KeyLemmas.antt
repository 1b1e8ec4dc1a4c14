-- How the contracts of the calls on keys make their entries, and what these report.
use Rattle.std.proofs.Common.{◌≡◌, ◌≢◌, ℕ, Bool, true, false, cond, not, ◌&&◌, ◌==◌, List, Option, Some, None, inl, refl, sym, ap, subst, ◌∙◌}
use Rattle.std.specs.Prelude.{IfSome, IfNone}
use Rattle.std.proofs.lemmas.Bool.{true≢false}
use Rattle.call_history.specs.Entries.{entry}
use Rattle.policy_ctx.specs.declared.policy.KeyId.{KeyId}
use Rattle.fsc_keys.specs.Keys.{key_id_of}
use Rattle.user_claims.specs.Claims.{ClaimSet, has_claim, with_claim, without_claim, without_id}
use Rattle.user_claims.specs.ClaimCounts.{is_present}
use Rattle.mount_model.specs.declared.call.Call.{Call}
use Rattle.mount_model.specs.declared.call.Op.{Op}
use Rattle.mount_model.specs.declared.call.Op.TheVariants.{AddKey, RemoveKey, RemoveKeyAll, KeyStatus}
use Rattle.mount_model.specs.declared.reply.Reply.{Reply}
use Rattle.mount_model.specs.declared.reply.Reply.TheVariants.{Added, Removed, Refused}
use Rattle.mount_model.specs.declared.reply.Refusal.{Refusal}
use Rattle.mount_model.specs.declared.reply.Refusal.TheVariants.{NoKey, Access, Inval, Quota, NoMemory}
use Rattle.mount_model.specs.PlainMount.{PlainMount}
use Rattle.mount_model.specs.AnswerForms.{refusal_with}
use Rattle.mount_model.specs.KeyAnswers.{is_raw_key, answer_to_added_key, answer_to_add_key, answer_to_key_status}
use Rattle.mount_model.specs.RemovalAnswers.{reply_to_removal, answer_to_remove_key, answer_to_remove_key_all}
use Rattle.mount_model.specs.ClaimHistory.{is_refused}
use Rattle.mount_model.specs.Lawful.{AgreesWith}
use Rattle.mount_state.specs.AnswerOf.{IsAnswerOf, IsAnswerOrNoMemory, IsReplyOrNoMemory, IsExpectedRefusal}
use Rattle.mount_state.specs.KeyUse.{is_in_use}
use Rattle.mount_state.specs.Represents.{Represents}
use Rattle.mount_state.specs.declared.state.MountState.{MountState}
use Rattle.mount_model.specs.KeyReplies.{added_unless}
use Rattle.mount_keys.specs.KeyReplies.{is_over_quota, add_fault, removal_by, clearing_by, reply_of_removal, reply_of_clearing, reply_of_status}
use Rattle.mount_state.specs.SameBut.{IsSame}
use Rattle.mount_state.specs.SameButCaches.{SameButCaches}
use Rattle.mount_keys.specs.ClaimChanges.{GainsClaim, LosesClaim, LosesAllClaims, SameButKeyed}
use Rattle.mount_shared.specs.Made.{IsMade}
use Rattle.mount_shared.proofs.MadeLemmas.{call_with, all_kept, takes_some, step_given, step_given_or_none, made_given}

claims_by : (b : Bool) (x y z : ClaimSet) → (b ≡ true → z ≡ x) → (b ≡ false → z ≡ y) → z ≡ cond b x y
claims_by true x y z kept made = kept refl
claims_by false x y z kept made = made refl

module _ (old new : MountState) (caller : ℕ) (call : Call) (reply : Reply) where
  abbrev EntryOf : Op → Type 0
  EntryOf o = IsMade old (entry caller (call_with call.uid o) reply) new

  -- ---- AddKey

  added_tells : (fault : Option Refusal) (id : KeyId) → IfSome fault (λ refusal. reply ≡ Refused refusal)
      → IfNone fault (IsReplyOrNoMemory (Added id) reply) → IsReplyOrNoMemory (added_unless fault id) reply
  added_tells (Some refusal) id faulted accepted = inl faulted
  added_tells None id faulted accepted = accepted

  -- a fault that is found is the answer of every mount that the state represents
  addition_due : (raw : List ℕ) → IfSome (add_fault old.ring.claims call.uid raw) (λ refusal. reply ≡ Refused refusal)
      → (m : PlainMount) → Represents old m → IsExpectedRefusal (answer_to_add_key m call.uid raw) reply
  addition_due raw faulted m st =
      by (not (is_raw_key raw)) (is_over_quota m.claims (key_id_of raw) call.uid)
      (subst (λ (cs : ClaimSet). IfSome (add_fault cs call.uid raw) (λ refusal. reply ≡ Refused refusal)) st.keys.claims faulted)
    where
      by : (a b : Bool) → IfSome (cond a (Some Inval) (cond b (Some Quota) None)) (λ refusal. reply ≡ Refused refusal)
          → IsExpectedRefusal (cond a (refusal_with m Inval) (cond b (refusal_with m Quota) (answer_to_added_key m call.uid raw))) reply
      by true b told due = told
      by false true told due = told
      by false false told due = absurd (true≢false (sym due))

  pub made_add_key : (raw : List ℕ) → call.op ≡ AddKey raw
      → IfSome (add_fault old.ring.claims call.uid raw) (λ refusal. reply ≡ Refused refusal)
      → IfNone (add_fault old.ring.claims call.uid raw) (IsReplyOrNoMemory (Added (key_id_of raw)) reply)
      → (is_refused reply ≡ true → IsSame old new) → (is_refused reply ≡ false → GainsClaim old new call.uid raw)
      → ((m : PlainMount) → Represents old m → (is_refused reply ≡ false → AgreesWith m.raws raw)
      → IsAnswerOrNoMemory m (answer_to_add_key m call.uid raw) reply new)
      → IsMade old (entry caller call reply) new
  made_add_key raw is faulted accepted kept gained represents = subst EntryOf (sym is) record {
    represents = λ m st agrees.
        step_given_or_none m (entry caller (call_with call.uid (AddKey raw)) reply) new refl (represents m st agrees);
    claims = claims_by (is_refused reply) old.ring.claims (with_claim old.ring.claims (key_id_of raw) call.uid) new.ring.claims
        (λ no. ap (λ ring. ring.claims) (kept no).ring) (λ yes. (gained yes).claims);
    told = added_tells (add_fault old.ring.claims call.uid raw) (key_id_of raw) faulted accepted;
    refused = λ no. all_kept old new (kept no);
    sure = takes_some (AddKey raw) reply refl;
    due = addition_due raw faulted;
  }

  -- ---- RemoveKey

  -- the reply is not out of memory
  abbrev IsNoWant : Reply → Type 0
  IsNoWant r = r ≢ Refused NoMemory

  module _ (id : KeyId) where
    at_removal : (P : Reply → Type 0) (claims : ClaimSet) (busy : Bool) → P (Refused NoKey)
        → P (reply_to_removal (is_present (without_claim claims id call.uid) id) busy) → P (removal_by claims busy call.uid id)
    at_removal P claims busy refusal_with made =
        at (not (is_present claims id) && not busy) (is_present claims id && not (has_claim claims id call.uid))
      where
        at : (a b : Bool) → P (cond a (Refused NoKey) (cond b (Refused NoKey) (reply_to_removal (is_present (without_claim claims id call.uid) id) busy)))
        at true b = refusal_with
        at false true = refusal_with
        at false false = made

    told_busy : (left busy b : Bool) → reply_to_removal left busy ≡ Removed false b → b ≡ busy
    told_busy true busy b is = absurd (cc)
    told_busy false busy b is = cc

    abbrev TellsBusy : Reply → Type 0
    TellsBusy r = (b : Bool) → r ≡ Removed false b → b ≡ is_in_use new.disk new.handles.live id

    busy_stays : SameButKeyed old new → is_in_use old.disk old.handles.live id ≡ is_in_use new.disk new.handles.live id
    busy_stays same = sym (λ i. is_in_use (same.disk i) (same.handles i).live id)

    pub removal_busy : reply ≡ reply_of_removal old call.uid id → SameButKeyed old new → TellsBusy reply
    removal_busy told same = subst TellsBusy (sym told)
        (at_removal TellsBusy old.ring.claims (is_in_use old.disk old.handles.live id)
        (λ b none. absurd (cc))
        (λ b this. told_busy (is_present (without_claim old.ring.claims id call.uid) id) (is_in_use old.disk old.handles.live id) b this
        ∙ busy_stays same))

    pub made_remove_key : call.op ≡ RemoveKey id → reply ≡ reply_of_removal old call.uid id → (is_refused reply ≡ true → IsSame old new)
        → (is_refused reply ≡ false → LosesClaim old new call.uid id)
        → ((m : PlainMount) → Represents old m → IsAnswerOf (answer_to_remove_key m call.uid id) reply new)
        → IsMade old (entry caller call reply) new
    made_remove_key is told kept taken represents =
        subst EntryOf (sym is) record {
          represents = λ m st agrees. step_given m (entry caller (call_with call.uid (RemoveKey id)) reply) new (represents m st);
          claims = claims_by (is_refused reply) old.ring.claims (without_claim old.ring.claims id call.uid) new.ring.claims
              (λ no. ap (λ ring. ring.claims) (kept no).ring) (λ yes. (taken yes).claims);
          told = (is_in_use old.disk old.handles.live id, told);
          refused = λ no. all_kept old new (kept no);
          sure = λ _. subst IsNoWant (sym told) (at_removal IsNoWant old.ring.claims (is_in_use old.disk old.handles.live id) (λ bad. absurd (cc)) (λ bad. absurd (cc)));
          due = λ m st _. (represents m st).0;
        }

    -- ---- RemoveKeyAll

    at_clearing : (P : Reply → Type 0) (claims : ClaimSet) (busy : Bool) → P (Refused Access) → P (Refused NoKey)
        → P (Removed false busy) → P (clearing_by claims busy call.uid id)
    at_clearing P claims busy denied absent made = at (not (call.uid == 0)) (not (is_present claims id) && not busy)
      where
        at : (a b : Bool) → P (cond a (Refused Access) (cond b (Refused NoKey) (Removed false busy)))
        at true b = denied
        at false true = absent
        at false false = made

    same_told : (a b : Bool) → Removed false a ≡ Removed false b → b ≡ a
    same_told a b is = cc

    pub clearing_busy : reply ≡ reply_of_clearing old call.uid id → SameButKeyed old new → TellsBusy reply
    clearing_busy told same = subst TellsBusy (sym told)
        (at_clearing TellsBusy old.ring.claims (is_in_use old.disk old.handles.live id)
        (λ b none. absurd (cc)) (λ b none. absurd (cc))
        (λ b this. same_told (is_in_use old.disk old.handles.live id) b this ∙ busy_stays same))

    pub made_remove_key_all : call.op ≡ RemoveKeyAll id → reply ≡ reply_of_clearing old call.uid id
        → (is_refused reply ≡ true → IsSame old new) → (is_refused reply ≡ false → LosesAllClaims old new id)
        → ((m : PlainMount) → Represents old m → IsAnswerOf (answer_to_remove_key_all m call.uid id) reply new)
        → IsMade old (entry caller call reply) new
    made_remove_key_all is told kept taken represents =
        subst EntryOf (sym is) record {
          represents = λ m st agrees. step_given m (entry caller (call_with call.uid (RemoveKeyAll id)) reply) new (represents m st);
          claims = claims_by (is_refused reply) old.ring.claims (without_id old.ring.claims id) new.ring.claims
              (λ no. ap (λ ring. ring.claims) (kept no).ring) (λ yes. (taken yes).claims);
          told = (is_in_use old.disk old.handles.live id, told);
          refused = λ no. all_kept old new (kept no);
          sure = λ _. subst IsNoWant (sym told) (at_clearing IsNoWant old.ring.claims (is_in_use old.disk old.handles.live id) (λ bad. absurd (cc)) (λ bad. absurd (cc)) (λ bad. absurd (cc)));
          due = λ m st _. (represents m st).0;
        }

    -- ---- KeyStatus

    pub made_key_status : call.op ≡ KeyStatus id → reply ≡ reply_of_status old call.uid id → new.ring ≡ old.ring
        → (is_refused reply ≡ true → SameButCaches old new)
        → ((m : PlainMount) → Represents old m → IsAnswerOf (answer_to_key_status m call.uid id) reply new)
        → IsMade old (entry caller call reply) new
    made_key_status is told same keeps represents =
        made_given old new caller call (KeyStatus id) reply is (λ cs. refl)
        (is_in_use old.disk old.handles.live id, told)
        same keeps (λ _. subst IsNoWant (sym told) (λ bad. absurd (cc))) represents
