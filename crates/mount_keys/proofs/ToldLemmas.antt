-- The reply to a removal by the state is the answer of the mount that the state represents.
use Rattle.std.proofs.Common.{◌≡◌, ℕ, Bool, true, false, cond, not, ◌&&◌, ◌==◌, refl, sym, ap, ◌∙◌}
use Rattle.std.proofs.lemmas.Bool.{true≢false}
use Rattle.policy_ctx.specs.declared.policy.KeyId.{KeyId}
use Rattle.user_claims.specs.Claims.{ClaimSet, has_claim, without_claim, without_id}
use Rattle.user_claims.specs.ClaimCounts.{is_present}
use Rattle.user_claims.proofs.ClaimLemmas.{without_claim-absent}
use Rattle.user_claims.proofs.PresentLemmas.{is_present-held, has_claim-absent}
use Rattle.mount_model.specs.declared.reply.Reply.{Reply}
use Rattle.mount_model.specs.declared.reply.Reply.TheVariants.{Removed, Refused}
use Rattle.mount_model.specs.declared.reply.Refusal.TheVariants.{NoKey, Access}
use Rattle.mount_model.specs.PlainMount.{PlainMount}
use Rattle.mount_model.specs.States as plain
use Rattle.mount_model.specs.AnswerForms.{Answer, refusal_with}
use Rattle.mount_model.specs.RemovalAnswers.{is_absent, reply_to_removal, answer_to_removed_claim, answer_to_all_removed, answer_to_remove_key, answer_to_remove_key_all}
use Rattle.mount_model.proofs.CaseLemmas.{at_remove_key, at_remove_key_all}
use Rattle.mount_state.specs.KeyUse.{is_in_use}
use Rattle.mount_state.specs.Represents.{Represents}
use Rattle.mount_state.specs.declared.state.MountState.{MountState}
use Rattle.mount_state.proofs.StandLemmas.{busy_stands}
use Rattle.mount_state.specs.AnswerOf.{IsAnswerOf}
use Rattle.mount_keys.specs.KeyReplies.{removal_by, clearing_by, reply_of_removal, reply_of_clearing}

-- ---- a removal that is made

-- by whether there is a claim on the key, whether a handle needs it, and whether the claim is the user's
abbrev chosen : Reply → Bool → Bool → Bool → Reply
chosen made present busy held =
    cond (not present && not busy) (Refused NoKey) (cond (present && not held) (Refused NoKey) made)

chosen-held : (made : Reply) (p b h : Bool) → p ≡ true → h ≡ true → chosen made p b h ≡ made
chosen-held made true b true there held = refl
chosen-held made true b false there held = absurd (true≢false (sym held))
chosen-held made false b h there held = absurd (true≢false (sym there))

chosen-busy : (made : Reply) (p b h : Bool) → p ≡ false → b ≡ true → chosen made p b h ≡ made
chosen-busy made true b h absent busy = absurd (true≢false absent)
chosen-busy made false true h absent busy = refl
chosen-busy made false false h absent busy = absurd (true≢false (sym busy))

module _ (claims : ClaimSet) (busy : Bool) (uid : ℕ) (id : KeyId) where
  -- the user's claim is taken
  pub held_told : has_claim claims id uid ≡ true → (others told : Bool) → others
      ≡ is_present (without_claim claims id uid) id → told ≡ (not others && busy)
      → Removed others told ≡ removal_by claims busy uid id
  held_told held others told others_are told_is =
      (λ i. Removed (others_are i) ((told_is ∙ ap (λ o. not o && busy) others_are) i))
      ∙ sym (chosen-held (reply_to_removal (is_present (without_claim claims id uid) id) busy)
      (is_present claims id) busy (has_claim claims id uid)
      (is_present-held claims id uid held) held)

  -- no user has one, and a handle needs the key
  pub busy_told : is_present claims id ≡ false → busy ≡ true → Removed false busy
      ≡ removal_by claims busy uid id
  busy_told absent needed =
      ap (λ o. reply_to_removal o busy) (sym (ap (λ (cs : ClaimSet). is_present cs id)
      (without_claim-absent claims id uid (has_claim-absent claims id uid absent)) ∙ absent))
      ∙ sym (chosen-busy (reply_to_removal (is_present (without_claim claims id uid) id) busy)
      (is_present claims id) busy (has_claim claims id uid) absent needed)

-- ---- the mount's answer

reply_of : (b : Bool) (x y : Answer) → (cond b x y).reply ≡ cond b x.reply y.reply
reply_of true x y = refl
reply_of false x y = refl

module _ (s : MountState) (m : PlainMount) (st : Represents s m) (uid : ℕ) (id : KeyId) where
  busy_is : is_in_use s.disk s.handles.live id ≡ plain.is_busy m id
  busy_is = busy_stands s.disk s.next_node m st.well st.tree s.handles.live st.handles.live id

  removal_reply : reply_of_removal s uid id ≡ (answer_to_remove_key m uid id).reply
  removal_reply =
      (λ i. removal_by (st.keys.claims i) (busy_is i) uid id)
      ∙ sym (reply_of (is_absent m.claims (plain.is_busy m id) id) (refusal_with m NoKey)
      (cond (is_present m.claims id && not (has_claim m.claims id uid)) (refusal_with m NoKey)
      (answer_to_removed_claim m uid id))
      ∙ ap (cond (is_absent m.claims (plain.is_busy m id) id) (Refused NoKey)) (reply_of
      (is_present m.claims id && not (has_claim m.claims id uid)) (refusal_with m NoKey) (answer_to_removed_claim m uid id)))

  clearing_reply : reply_of_clearing s uid id ≡ (answer_to_remove_key_all m uid id).reply
  clearing_reply =
      (λ i. clearing_by (st.keys.claims i) (busy_is i) uid id)
      ∙ sym (reply_of (not (uid == 0)) (refusal_with m Access)
      (cond (is_absent m.claims (plain.is_busy m id) id) (refusal_with m NoKey) (answer_to_all_removed m id))
      ∙ ap (cond (not (uid == 0)) (Refused Access)) (reply_of (is_absent m.claims (plain.is_busy m id) id) (refusal_with m NoKey)
      (answer_to_all_removed m id)))

  -- what was removed leaves the mount of the answer
  pub removal_gives : (new : MountState) (others told : Bool) → Removed others told
      ≡ reply_of_removal s uid id
      → Represents new (record m { claims = without_claim m.claims id uid })
      → IsAnswerOf (answer_to_remove_key m uid id) (Removed others told) new
  removal_gives new others told is represents =
      let reply : Removed others told ≡ (answer_to_remove_key m uid id).reply = is ∙ removal_reply in (
        reply,
        at_remove_key (λ (a : Answer). Removed others told ≡ a.reply → Represents new a.mount) m uid id
            (λ refusal due bad. absurd (cc)) (λ _. represents) reply,
      )

  pub clearing_gives : (new : MountState) (others told : Bool) → Removed others told
      ≡ reply_of_clearing s uid id
      → Represents new (record m { claims = without_id m.claims id })
      → IsAnswerOf (answer_to_remove_key_all m uid id) (Removed others told) new
  clearing_gives new others told is represents =
      let reply : Removed others told ≡ (answer_to_remove_key_all m uid id).reply = is ∙ clearing_reply in (
        reply,
        at_remove_key_all (λ (a : Answer). Removed others told ≡ a.reply → Represents new a.mount) m uid
            id (λ refusal due bad. absurd (cc)) (λ _. represents) reply,
      )
