-- Claims and raw keys stay well formed.
use Rattle.std.proofs.Common.{◌≡◌, ℕ, ◌+◌, ◌<◌, ◌≤◌, true, false, cond, not, ◌&&◌, ◌||◌, nat_le, eqb, List, Some, None, is_some, sym, refl, ap, ◌∙◌, subst, ⊎_elim, arith}
use Rattle.std.specs.FinMap as map
use Rattle.std.specs.FinMap.{get-insert, get-empty}
use Rattle.std.specs.Ordering.{nat_cmp}
use Rattle.std.proofs.lemmas.Map.Text.{is_eq-slice_cmp}
use Rattle.std.specs.Cmp.Lexicographic.{slice_cmp, nat_list_cmp_total}
use Rattle.std.proofs.lemmas.Bool.{cond-true, cond-false, cases_Bool, true≢false, and_cases, and_parts, both_ways, not_from_false, leb-false}
use Rattle.policy_ctx.specs.declared.policy.KeyId.{KeyId}
use Rattle.policy_ctx.specs.KeyIds.{same_id}
use Rattle.policy_ctx.proofs.KeyIdLemmas.{same_id-eq}
use Rattle.fsc_keys.specs.Keys.{key_id_of}
use Rattle.user_claims.specs.Claims.{ClaimSet, no_claims, has_claim, with_claim, without_claim, without_id}
use Rattle.user_claims.specs.ClaimCounts.{count_of_user}
use Rattle.user_claims.proofs.ClaimLemmas.{has_claim-none, has_claim-with_claim, has_claim-without_claim, has_claim-without_id, count_of_user-none, count_of_user-with_claim-le, count_of_user-without_claim-le, same_claim}
use Rattle.user_claims.proofs.PresentLemmas.{count_of_user-without_id-le}
use Rattle.user_claims.specs.declared.claims.TheConstants.{MAX_CLAIMS}
use Rattle.mount_model.specs.PlainMount.{Raws, raw_in, with_raw}
use Rattle.mount_model.specs.KeyAnswers.{is_raw_key}
use Rattle.mount_model.specs.WellFormed.{HasKeys}

-- the raw keys once one was added
pub raw_in-with_raw : (raws : Raws) (id : KeyId) (raw : List ℕ) (q : KeyId) → raw_in (with_raw raws id raw) q ≡ cond (same_id q id) (Some raw) (raw_in raws q)
raw_in-with_raw raws id raw q =
    get-insert nat_list_cmp_total raws id.0 raw q.0 ∙ ap (λ b. cond b (Some raw) (raw_in raws q)) (is_eq-slice_cmp q.0 id.0)

room : (claims : ClaimSet) (id : KeyId) (uid : ℕ) → (not (has_claim claims id uid) && nat_le MAX_CLAIMS (count_of_user claims uid)) ≡ false → has_claim claims id uid ≡ false
    → count_of_user claims uid + 1 ≤ MAX_CLAIMS
room claims id uid within new = ⊎_elim
    (λ held. absurd (both_ways (not (has_claim claims id uid)) held (not_from_false (has_claim claims id uid) new)))
    (λ few. let below : count_of_user claims uid < MAX_CLAIMS = leb-false MAX_CLAIMS (count_of_user claims uid) few in omega arith)
    (and_cases _ _ within)

module _ (claims : ClaimSet) (raws : Raws) (uid : ℕ) (raw : List ℕ) (well : HasKeys claims raws) (key : is_raw_key raw ≡ true) where
  added_now : (q : KeyId) (user : ℕ) → has_claim (with_claim claims (key_id_of raw) uid) q user ≡ true → is_some (raw_in (with_raw raws (key_id_of raw) raw) q) ≡ true
  added_now q user had =
      let there = raw_in-with_raw raws (key_id_of raw) raw q in
      let some : (same_claim (q, user) (key_id_of raw, uid) || has_claim claims q user) ≡ true = sym (has_claim-with_claim claims (key_id_of raw) uid (q, user)) ∙ had in
      ⊎_elim
      (λ same. ap is_some (there ∙ cond-true (same_id q (key_id_of raw)) (Some raw) (raw_in raws q) same))
      (λ apart. ap is_some (there ∙ cond-false (same_id q (key_id_of raw)) (Some raw) (raw_in raws q) apart)
      ∙ well.added q user (sym (ap (λ b. (b && eqb user uid) || has_claim claims q user) apart) ∙ some))
      (cases_Bool (same_id q (key_id_of raw)))

  -- what holds of this raw key under its identifier, and of each other as before, holds of each
  each_raw : (P : KeyId → List ℕ → Type 0) → P (key_id_of raw) raw → ((q : KeyId) (r : List ℕ) → raw_in raws q ≡ Some r → P q r)
      → (q : KeyId) (r : List ℕ) → raw_in (with_raw raws (key_id_of raw) raw) q ≡ Some r → P q r
  each_raw P here old q r is =
      let there = raw_in-with_raw raws (key_id_of raw) raw q in
      ⊎_elim
      (λ same. let found : Some raw ≡ Some r = sym (cond-true (same_id q (key_id_of raw)) (Some raw) (raw_in raws q) same) ∙ (sym there ∙ is) in
      let raw_is : raw ≡ r = cc in
      subst (λ k. P k r) (sym (same_id-eq q (key_id_of raw) same)) (subst (P (key_id_of raw)) raw_is here))
      (λ apart. old q r (sym (cond-false (same_id q (key_id_of raw)) (Some raw) (raw_in raws q) apart) ∙ (sym there ∙ is)))
      (cases_Bool (same_id q (key_id_of raw)))

  pub HasKeys-with_key : (not (has_claim claims (key_id_of raw) uid) && nat_le MAX_CLAIMS (count_of_user claims uid)) ≡ false → HasKeys (with_claim claims (key_id_of raw) uid) (with_raw raws (key_id_of raw) raw)
  HasKeys-with_key within = record {
    quota = λ other. count_of_user-with_claim-le claims (key_id_of raw) uid other MAX_CLAIMS (room claims (key_id_of raw) uid within) (well.quota other);
    added = added_now;
    sizes = each_raw (λ q r. is_raw_key r ≡ true) key well.sizes;
    filed = each_raw (λ q r. key_id_of r ≡ q) refl well.filed;
  }

-- fewer claims
HasKeys-fewer : (claims fewer : ClaimSet) (raws : Raws) → HasKeys claims raws → ((id : KeyId) (uid : ℕ) → has_claim fewer id uid ≡ true → has_claim claims id uid ≡ true)
    → ((uid : ℕ) → count_of_user fewer uid ≤ count_of_user claims uid) → HasKeys fewer raws
HasKeys-fewer claims fewer raws well held counts = record {
  quota = λ uid. let now = counts uid in let before = well.quota uid in omega arith;
  added = λ id uid had. well.added id uid (held id uid had);
  sizes = well.sizes;
  filed = well.filed;
}

pub HasKeys-without_claim : (claims : ClaimSet) (raws : Raws) (id : KeyId) (uid : ℕ) → HasKeys claims raws → HasKeys (without_claim claims id uid) raws
HasKeys-without_claim claims raws id uid well = HasKeys-fewer claims (without_claim claims id uid) raws well
    (λ q user had. (and_parts _ _ (sym (has_claim-without_claim claims id uid (q, user)) ∙ had)).1)
    (λ user. count_of_user-without_claim-le claims id uid user)

pub HasKeys-without_id : (claims : ClaimSet) (raws : Raws) (id : KeyId) → HasKeys claims raws → HasKeys (without_id claims id) raws
HasKeys-without_id claims raws id well = HasKeys-fewer claims (without_id claims id) raws well
    (λ q user had. (and_parts _ _ (sym (has_claim-without_id claims id (q, user)) ∙ had)).1)
    (λ user. count_of_user-without_id-le claims id user)

pub HasKeys-empty : HasKeys no_claims map.empty
HasKeys-empty = record {
  quota = λ uid. let none = count_of_user-none uid in omega arith;
  added = λ id uid had. absurd (true≢false (sym had ∙ has_claim-none id uid));
  sizes = λ id raw is. let none : None ≡ Some raw = sym (get-empty (slice_cmp nat_cmp) id.0) ∙ is in absurd (cc);
  filed = λ id raw is. let none : None ≡ Some raw = sym (get-empty (slice_cmp nat_cmp) id.0) ∙ is in absurd (cc);
}
