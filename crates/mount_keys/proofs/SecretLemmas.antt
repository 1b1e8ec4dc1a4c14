-- Secrets are removed with the claims on their keys.
use Rattle.std.proofs.Common.{◌≡◌, ℕ, Bool, true, false, cond, List, Option, Some, None, is_some, inl, inr}
use Rattle.std.proofs.Common.{refl, sym, ap, ◌∙◌}
use Rattle.std.specs.FinMap as map
use Rattle.std.specs.FinMap.{get-remove, same_map}
use Rattle.std.specs.Ordering.{eq_by_cmp}
use Rattle.std.proofs.lemmas.Bool.{cases_Bool, cond-true, cond-false, true≢false}
use Rattle.policy_ctx.specs.declared.policy.KeyId.{KeyId}
use Rattle.policy_ctx.proofs.KeyIdLemmas.{same_id-refl, same_id-eq}
use Rattle.user_claims.specs.Claims.{ClaimSet, id_cmp}
use Rattle.user_claims.specs.ClaimCounts.{is_present}
use Rattle.user_claims.proofs.ClaimOrder.{id_cmp_total, id_cmp-IsAntisymmetric, id_ties}
use Rattle.key_ring.specs.Holding.{SecretMap, remaining_secrets}

is_none : (o : Option (List ℕ)) → is_some o ≡ false → o ≡ None
is_none None none = refl
is_none (Some raw) bad = absurd (true≢false bad)

picked : (b : Bool) (o : Option (List ℕ)) (raw : List ℕ) → cond b None o ≡ Some raw → o ≡ Some raw
picked true o raw is = let none : None ≡ Some raw = is in absurd (cc)
picked false o raw is = is

-- what is left was there
pub removed_was : (secrets : SecretMap) (id q : KeyId) (raw : List ℕ) → map.get (map.remove secrets id) q
    ≡ Some raw → map.get secrets q ≡ Some raw
removed_was secrets id q raw there =
    picked (eq_by_cmp id_cmp q id) (map.get secrets q) raw
    (sym (get-remove id_cmp_total secrets id q) ∙ there)

pub left_was : (secrets : SecretMap) (claims : ClaimSet) (id q : KeyId) (raw : List ℕ)
    → map.get (remaining_secrets secrets claims id) q ≡ Some raw → map.get secrets q ≡ Some raw
left_was secrets claims id q raw = by (is_present claims id)
  where
    by : (b : Bool) → map.get (cond b secrets (map.remove secrets id)) q ≡ Some raw → map.get secrets q
        ≡ Some raw
    by true there = there
    by false there = removed_was secrets id q raw there

-- and the key itself has none
pub removed_none : (secrets : SecretMap) (id : KeyId) → map.get (map.remove secrets id) id ≡ None
removed_none secrets id = get-remove id_cmp_total secrets id id
    ∙ cond-true (eq_by_cmp id_cmp id id) None (map.get secrets id) (sym (id_ties id id) ∙ same_id-refl id)

-- if it had none all secrets remain
pub removed_absent : (secrets : SecretMap) (id : KeyId) → is_some (map.get secrets id) ≡ false
    → map.remove secrets id ≡ secrets
removed_absent secrets id absent = same_map id_cmp_total id_cmp-IsAntisymmetric _ _ (λ q.
    get-remove id_cmp_total secrets id q ∙ elim (cases_Bool (eq_by_cmp id_cmp q id)) [
      | inl here ↦
          cond-true (eq_by_cmp id_cmp q id) None (map.get secrets q) here
          ∙ sym (is_none (map.get secrets q) (ap (λ (k : KeyId). is_some (map.get secrets k)) (same q here)
          ∙ absent))
      | inr apart ↦ cond-false (eq_by_cmp id_cmp q id) None (map.get secrets q) apart
    ])
  where
    same : (q : KeyId) → eq_by_cmp id_cmp q id ≡ true → q ≡ id
    same q here = same_id-eq q id (id_ties q id ∙ here)
