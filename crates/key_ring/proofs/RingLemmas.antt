-- After each call a secret is held exactly when there is a claim.
use Rattle.std.proofs.Common.{◌≡◌, ℕ, Bool, true, false, cond, eqb, not, ◌||◌, List, Result, Ok, Err, is_err, is_ok, OnOk, OnErr, Some, None, is_some, sym, refl, ap, ◌∙◌, subst, ⊎_elim, arith}
use Rattle.std.specs.Ordering.{eq_by_cmp}
use Rattle.std.specs.FinMap as map
use Rattle.std.specs.FinMap.{get-insert, get-remove}
use Rattle.std.proofs.lemmas.Bool.{cases_Bool, cond-true, cond-false, or_right, true≢false}
use Rattle.policy_ctx.specs.declared.policy.KeyId.{KeyId}
use Rattle.policy_ctx.specs.KeyIds.{same_id}
use Rattle.policy_ctx.proofs.KeyIdLemmas.{same_id-eq, same_id-symm}
use Rattle.user_claims.specs.Claims.{ClaimSet, id_cmp, has_claim, with_claim, without_claim}
use Rattle.user_claims.specs.ClaimCounts.{is_present, count_of_id}
use Rattle.user_claims.proofs.ClaimOrder.{id_cmp_total, id_ties}
use Rattle.user_claims.proofs.ClaimLemmas.{without-with_claim}
use Rattle.user_claims.proofs.PresentLemmas.{is_present-held, is_present-some, is_present-with_claim, is_present-without_claim_other}
use Rattle.key_ring.specs.Holding.{SecretMap, HoldsClaimedSecrets}

tie : (id q : KeyId) → eq_by_cmp id_cmp q id ≡ same_id id q
tie id q = sym (id_ties q id) ∙ same_id-symm q id

module _ (claims : ClaimSet) (secrets : SecretMap) (exact : HoldsClaimedSecrets (record { claims = claims; secrets = secrets })) where
  -- a secret was added with a claim
  pub exact_taken : (id : KeyId) (user : ℕ) (raw : List ℕ) → HoldsClaimedSecrets (record { claims = with_claim claims id user; secrets = map.insert secrets id raw })
  exact_taken id user raw q =
      ap is_some (get-insert id_cmp_total secrets id raw q) ∙ (ap (λ b. is_some (cond b (Some raw) (map.get secrets q))) (tie id q) ∙ (⊎_elim
      (λ same. ap is_some (cond-true (same_id id q) (Some raw) (map.get secrets q) same) ∙ sym (or_right (is_present claims q) (same_id id q) same))
      (λ apart. ap is_some (cond-false (same_id id q) (Some raw) (map.get secrets q) apart) ∙ (exact q ∙ (sym (or-false (is_present claims q)) ∙ ap (λ b. is_present claims q || b) (sym apart))))
      (cases_Bool (same_id id q)) ∙ sym (is_present-with_claim claims id user q)))
    where
      or-false : (b : Bool) → (b || false) ≡ b
      or-false true = refl
      or-false false = refl

  -- a secret went with the last claim
  pub exact_forgotten : (left : ClaimSet) (id : KeyId) → is_present left id ≡ false → ((q : KeyId) → same_id id q ≡ false → is_present left q ≡ is_present claims q)
      → HoldsClaimedSecrets (record { claims = left; secrets = map.remove secrets id })
  exact_forgotten left id last others q =
      ap is_some (get-remove id_cmp_total secrets id q) ∙ (ap (λ b. is_some (cond b None (map.get secrets q))) (tie id q) ∙ ⊎_elim
      (λ same. ap is_some (cond-true (same_id id q) None (map.get secrets q) same) ∙ sym (ap (is_present left) (sym (same_id-eq id q same)) ∙ last))
      (λ apart. ap is_some (cond-false (same_id id q) None (map.get secrets q) apart) ∙ (exact q ∙ sym (others q apart)))
      (cases_Bool (same_id id q)))

  -- a claim went and another is left on the key
  pub exact_left : (id : KeyId) (user : ℕ) → has_claim claims id user ≡ true → is_present (without_claim claims id user) id ≡ true → HoldsClaimedSecrets (record { claims = without_claim claims id user; secrets = secrets })
  exact_left id user held left q = exact q ∙ ⊎_elim
      (λ same. let is = same_id-eq id q same in
      ap (is_present claims) (sym is) ∙ (is_present-held claims id user held ∙ (sym left ∙ ap (is_present (without_claim claims id user)) is)))
      (λ apart. sym (is_present-without_claim_other claims id user q apart))
      (cases_Bool (same_id id q))

  -- if there was no space for a secret, the claim was the key's first
  pub unheld : {T E : Type 0} (id : KeyId) (user : ℕ) (r : Result T E) → is_err r ≡ true → (map.contains_key secrets id ≡ true → is_ok r ≡ true) → has_claim claims id user ≡ false
  unheld id user r failed room = ⊎_elim
      (λ held. absurd (not_both r failed (room (exact id ∙ is_present-held claims id user held))))
      (λ new. new)
      (cases_Bool (has_claim claims id user))
    where
      not_both : {T E : Type 0} (r : Result T E) → is_err r ≡ true → is_ok r ≡ true → ⊥
      not_both (Ok x) y n = true≢false (sym y)
      not_both (Err e) y n = true≢false (sym n)

  -- a claim made and taken back
  pub undone : (made back : ClaimSet) (id : KeyId) (user : ℕ) → has_claim claims id user ≡ false → made ≡ with_claim claims id user → back ≡ without_claim made id user → back ≡ claims
  undone made back id user new is_made is_back = is_back ∙ (ap (λ cs. without_claim cs id user) is_made ∙ without-with_claim claims id user new)

-- none left, and some left
pub absent_at_zero : (cs : ClaimSet) (id : KeyId) → count_of_id cs id ≡ 0 → is_present cs id ≡ false
absent_at_zero cs id none = ap (λ n. not (eqb n 0)) none

pub present_above_zero : (cs : ClaimSet) (id : KeyId) → (count_of_id cs id ≡ 0 → ⊥) → is_present cs id ≡ true
present_above_zero cs id some = is_present-some cs id (omega (arith, some))

-- ---- results

pub at_ok : {T E P : Type 0} (r : Result T E) → is_err r ≡ false → OnOk r P → P
at_ok (Ok x) n p = p
at_ok (Err e) n p = absurd (true≢false n)

pub at_err : {T E P : Type 0} (r : Result T E) → is_err r ≡ true → OnErr r P → P
at_err (Ok x) y p = absurd (true≢false (sym y))
at_err (Err e) y p = p

pub by_either : {T E X : Type 0} (P : X → Type 0) (r : Result T E) (x a b : X) → OnOk r (x ≡ a) → OnErr r (x ≡ b) → P a → P b → P x
by_either P (Ok t) x a b ok err pa pb = subst P (sym ok) pa
by_either P (Err e) x a b ok err pa pb = subst P (sym err) pb
