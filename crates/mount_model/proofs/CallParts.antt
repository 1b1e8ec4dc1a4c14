-- What the refusals of the calls on policies and contents leave: that the nodes remain as they may be.
use Rattle.std.proofs.Common.{nat_lt, ◌≡◌, ℕ, ◌+◌, ◌-◌, ◌≤◌, true, false, cond, List, [], ◌∷◌, length, take, drop, max, eqb, Some, is_some, inl, inr, refl, sym, ap, subst, ◌∙◌, arith}
use Rattle.std.proofs.lemmas.Bool.{cases_Bool, true≢false, ltb-false, eqb-true}
use Rattle.std.proofs.lemmas.List.{length-take-le}
use Rattle.std.proofs.Common.{length-drop}
use Rattle.policy_ctx.specs.declared.policy.KeyId.{KeyId}
use Rattle.policy_ctx.specs.declared.fault.CtxFault.TheVariants.{Length}
use Rattle.policy_ctx.specs.PolicyFaults.{header_fault, policy_fault}
use Rattle.user_claims.specs.Claims.{has_claim}
use Rattle.user_claims.specs.ClaimCounts.{is_present}
use Rattle.user_claims.proofs.PresentLemmas.{holder}
use Rattle.byte_words.specs.Bytes.{AreBytes}
use Rattle.byte_words.specs.Contents.{with_bytes}
use Rattle.byte_words.proofs.ContentsLemmas.{length-with_bytes, AreBytes-with_bytes}
use Rattle.plain_tree.specs.Nodes.{Body, Dir, File, Link}
use Rattle.plain_tree.specs.BodyChanges.{with_contents}
use Rattle.mount_limits.specs.declared.TheConstants.{MAX_FILE_BYTES}
use Rattle.name_crypt.specs.declared.limits.TheConstants.{MAX_NAME_BYTES}
use Rattle.mount_model.specs.Carried.{IsTarget}
use Rattle.mount_model.specs.PlainMount.{PlainMount, raw_in}
use Rattle.mount_model.specs.PolicyAnswers.{may_use}
use Rattle.mount_model.specs.SpelledPolicy.{policy_in}
use Rattle.mount_model.specs.NameAnswers.{is_long_target}
use Rattle.mount_model.specs.WellFormed.{HasKeys}
use Rattle.mount_model.specs.SoundNodes.{IsBody, HasRaw}
use Rattle.mount_model.proofs.CaseLemmas.{CanEncrypt}
use Rattle.mount_model.proofs.TreeCalls.{IsFresh}

-- ---- new nodes

no_bytes : AreBytes []
no_bytes i = omega arith

pub fresh_dir : IsFresh (Dir [])
fresh_dir = record { children = refl; contents = refl; small = tt }

pub fresh_file : IsFresh (File [])
fresh_file = record { children = refl; contents = refl; small = (no_bytes, omega arith) }

pub fresh_link : (target : List ℕ) → IsTarget target → is_long_target (Link target) ≡ false → IsFresh (Link target)
fresh_link target is short = record {
  children = refl;
  contents = refl;
  small = (is, ltb-false MAX_NAME_BYTES (length target) short);
}

-- ---- a policy that is set

no_fault : (policy : List ℕ) → is_some (policy_fault policy) ≡ false → length policy ≡ 24
no_fault policy none = elim (cases_Bool (eqb (length policy) 24)) [
  | inl is ↦ eqb-true (length policy) 24 is
  | inr other ↦ absurd (true≢false (sym (ap (λ b. is_some (cond b (header_fault policy) (Some Length))) other) ∙ none))
]

id_length : (policy : List ℕ) → length policy ≡ 24 → length (take 16 (drop 8 policy)) ≡ 16
id_length policy is =
    let left : length (drop 8 policy) ≡ 16 = length-drop 8 policy ∙ ap (λ n. n - 8) is in
    length-take-le 16 (drop 8 policy) (omega arith)

raw_of_user : (m : PlainMount) (uid : ℕ) (id : KeyId) → HasKeys m.claims m.raws → may_use m uid id ≡ true → is_some (raw_in m.raws id) ≡ true
raw_of_user m uid id keys may = elim (cases_Bool (eqb uid 0)) [
  | inl root ↦
      let present : is_present m.claims id ≡ true = sym (ap (λ b. cond b (is_present m.claims id) (has_claim m.claims id uid)) root) ∙ may in
      let who = holder m.claims id present in
      keys.added id who.0 who.1
  | inr other ↦ keys.added id uid (sym (ap (λ b. cond b (is_present m.claims id) (has_claim m.claims id uid)) other) ∙ may)
]

pub raw_encrypted : (m : PlainMount) (uid : ℕ) (policy nonce : List ℕ) (d : ℕ) → HasKeys m.claims m.raws → CanEncrypt m uid policy d
    → HasRaw m.raws (Some (record { policy = policy_in policy; nonce = nonce }))
raw_encrypted m uid policy nonce d keys can =
    (id_length policy (no_fault policy can.spelled), raw_of_user m uid (policy_in policy).id keys can.held)

-- ---- contents that are written

none_written : (offset : ℕ) (contents : List ℕ) → with_bytes offset [] contents ≡ contents
unfolding with_bytes
none_written offset contents = refl

longer : (offset : ℕ) (bytes contents : List ℕ) → offset + length bytes ≤ MAX_FILE_BYTES → length contents ≤ MAX_FILE_BYTES → length (with_bytes offset bytes contents) ≤ MAX_FILE_BYTES
longer offset [] contents small few = subst (λ xs. length xs ≤ MAX_FILE_BYTES) (sym (none_written offset contents)) few
longer offset (b ∷ bs) contents small few =
    let is : length (with_bytes offset (b ∷ bs) contents) ≡ max (length contents) (offset + length (b ∷ bs)) = length-with_bytes offset (b ∷ bs) contents (omega arith) in
    omega arith

pub body_after_write : (offset : ℕ) (bytes : List ℕ) → AreBytes bytes → nat_lt MAX_FILE_BYTES (offset + length bytes) ≡ false → (b : Body) → IsBody b → IsBody (with_contents (with_bytes offset bytes) b)
body_after_write offset bytes are small (Dir cs) is = is
body_after_write offset bytes are small (File contents) is =
    (AreBytes-with_bytes offset bytes contents are is.0, longer offset bytes contents (ltb-false MAX_FILE_BYTES (offset + length bytes) small) is.1)
body_after_write offset bytes are small (Link target) is = is
