-- What is answered to a policy for a node, cause by cause.
use Rattle.std.proofs.Common.{◌≡◌, ◌≢◌, ℕ, option_map, true, false, cond, not, eqb, List, [], ◌∷◌, length, Ok, Option, Some, None, is_some, is_none, inl, inr, refl, sym, ap, subst, ◌∙◌, arith}
use Rattle.std.proofs.lemmas.Bool.{cases_Bool, true≢false, eqb-true, ne_eqb}
use Rattle.policy_ctx.specs.declared.policy.KeyId.{KeyId}
use Rattle.policy_ctx.specs.declared.policy.Policy.{Policy}
use Rattle.policy_ctx.specs.declared.policy.Context.{Context}
use Rattle.policy_ctx.specs.Context.{context_bytes}
use Rattle.policy_ctx.specs.Policy.{policy_bytes}
use Rattle.policy_ctx.specs.PolicyFaults.{policy_fault}
use Rattle.number_map.specs.Numbered.{get}
use Rattle.disk_tree.specs.DiskTree.{IsDirAt}
use Rattle.user_claims.specs.Claims.{has_claim}
use Rattle.user_claims.specs.ClaimCounts.{is_present}
use Rattle.user_claims.proofs.PresentLemmas.{is_present-held}
use Rattle.plain_tree.specs.NodesByNumber.{children, context_at}
use Rattle.mount_model.specs.declared.call.Op.TheVariants as op
use Rattle.mount_model.specs.declared.reply.Reply.TheVariants.{Done, Refused}
use Rattle.mount_model.specs.declared.reply.Refusal.TheVariants.{NoKey, Inval, Exists, NotDir, NotEmpty}
use Rattle.mount_model.specs.PlainMount.{PlainMount}
use Rattle.mount_model.specs.AnswerForms.{refusal_with, done, at_node}
use Rattle.mount_model.specs.Carried.{IsPath}
use Rattle.mount_model.specs.PolicyAnswers.{may_use, answer_to_encrypt, answer_to_set_at, answer_to_set_policy}
use Rattle.mount_model.specs.SpelledPolicy.{context_of, policy_in, is_same_policy}
use Rattle.mount_model.specs.Walk.{PathParts, WalkResult, walk_path}
use Rattle.mount_model.specs.WellFormed.{IsWellFormed}
use Rattle.mount_model.proofs.PolicyLemmas.{read_back}
use Rattle.mount_model.proofs.WellSteps.{step_well}
use Rattle.mount_state.specs.Contexts.{context_on_disk}
use Rattle.mount_state.specs.AnswerOf.{IsAnswerOrNoMemory, IsExpectedRefusal}
use Rattle.mount_state.specs.Represents.{Represents}
use Rattle.mount_state.specs.declared.state.MountState.{MountState}
use Rattle.mount_state.proofs.StandLemmas.{context_is}
use Rattle.mount_names.specs.EncryptedDirs.{with_policy}
use Rattle.mount_names.proofs.ReadLemmas.{dir_read}

-- ---- at the node

module _ (s : MountState) (m : PlainMount) (st : Represents s m) (n : ℕ) where
  -- a directory that isn't the root, bytes that spell this policy
  pub set_there : (uid : ℕ) (policy nonce : List ℕ) → IsDirAt s.disk n → (n ≢ 0) → policy_fault policy ≡ None → (p : Policy) → policy ≡ policy_bytes p → length p.id.0 ≡ 16
      → (context : Option Context) → context_at m.nodes n ≡ context → answer_to_set_at m uid policy nonce n ≡ answer_to_encrypt m uid n (record { policy = p; nonce = nonce }) context
  set_there uid policy nonce is_dir other faultless p is size context here =
      let dir = dir_read s.disk s.next_node m st.tree n is_dir in
      let inside = ne_eqb n 0 other in
      let read : policy_in policy ≡ p = ap policy_in is ∙ read_back p size in
      (λ i. cond (not (dir i)) (refusal_with m NotDir) (cond (inside i) (refusal_with m Inval) (cond (is_some (faultless i)) (refusal_with m Inval) (answer_to_encrypt m uid n (context_of policy nonce) (context_at m.nodes n)))))
      ∙ (λ i. answer_to_encrypt m uid n (record { policy = read i; nonce = nonce }) (here i))

  -- what has no policy has no context on the disk
  pub never_plain : None ≡ context_at m.nodes n → is_none (context_on_disk (get s.disk n)) ≡ false → ⊥
  never_plain none other =
      let plain : context_on_disk (get s.disk n) ≡ None = context_is s.disk s.next_node m st.well st.tree n ∙ ap (option_map context_bytes) (sym none) in
      true≢false (sym (ap is_none plain) ∙ other)

-- ---- if there is a policy

pub kept_gives : (m : PlainMount) (uid n : ℕ) (new old : Context) (new_state : MountState) → Represents new_state m
    → IsAnswerOrNoMemory m (answer_to_encrypt m uid n new (Some old)) (cond (is_same_policy old.policy new.policy) Done (Refused Exists)) new_state
kept_gives m uid n new old state st = elim (is_same_policy old.policy new.policy) as (λ b. IsAnswerOrNoMemory m (cond b (done m) (refusal_with m Exists)) (cond b Done (Refused Exists)) state) [
  | true ↦ inl (refl, st)
  | false ↦ inl (refl, st)
]

pub kept_due : (m : PlainMount) (uid n : ℕ) (new old : Context)
    → IsExpectedRefusal (answer_to_encrypt m uid n new (Some old)) (cond (is_same_policy old.policy new.policy) Done (Refused Exists))
kept_due m uid n new old = elim (is_same_policy old.policy new.policy) as (λ b. IsExpectedRefusal (cond b (done m) (refusal_with m Exists)) (cond b Done (Refused Exists))) [
  | true ↦ λ _. refl
  | false ↦ λ _. refl
]

-- ---- if there is none

module _ (m : PlainMount) (uid d : ℕ) (c : Context) where
  pub set_done : eqb (length (children m.nodes d)) 0 ≡ true → may_use m uid c.policy.id ≡ true → answer_to_encrypt m uid d c None ≡ done (with_policy m d c)
  set_done empty is = λ i. cond (not (empty i)) (refusal_with m NotEmpty) (cond (not (is i)) (refusal_with m NoKey) (done (with_policy m d c)))

  pub used_present : (id : KeyId) → may_use m uid id ≡ true → is_present m.claims id ≡ true
  used_present id may = elim (cases_Bool (eqb uid 0)) [
    | inl root ↦ sym (ap (λ b. cond b (is_present m.claims id) (has_claim m.claims id uid)) root) ∙ may
    | inr other ↦ is_present-held m.claims id uid (sym (ap (λ b. cond b (is_present m.claims id) (has_claim m.claims id uid)) other) ∙ may)
  ]

pub none_left : {X : Type 0} (xs : List X) → eqb (length xs) 0 ≡ true → xs ≡ []
none_left [] is = refl
none_left (x ∷ xs) is = let none : length (x ∷ xs) ≡ 0 = eqb-true _ _ is in absurd (omega arith)

-- ---- a mount in which a directory gets a policy stays well formed

pub set_policy_well : (m : PlainMount) (uid : ℕ) (path : PathParts) (policy nonce : List ℕ) (n : ℕ) → Ok n ≡ walk_path m path → IsWellFormed m → IsPath path
    → IsWellFormed (answer_to_set_at m uid policy nonce n).mount
set_policy_well m uid path policy nonce n led well fits =
    subst (λ (w : WalkResult). IsWellFormed (at_node m w (answer_to_set_at m uid policy nonce)).mount) (sym led)
    (step_well m 0 (record { uid = uid; op = op.SetPolicy path policy nonce }) (answer_to_set_policy m uid path policy nonce).reply (answer_to_set_policy m uid path policy nonce).mount
    well fits (λ _. tt) (inl (refl, refl)))

pub lacks_context : {X : Type 0} (o : Option X) → is_none o ≡ true → o ≡ None
lacks_context None is = refl
lacks_context (Some x) bad = absurd (true≢false (sym bad))
