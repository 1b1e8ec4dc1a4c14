-- The stored set, and its counts, when a claim is made or removed.
use Rattle.std.proofs.Common.{◌≡◌, ℕ, ◌+◌, ◌-◌, ◌<◌, Bool, true, false, cond, not, ◌&&◌, ◌||◌, List, [], ◌∷◌}
use Rattle.std.proofs.Common.{Some, unwrap_or, is_some, sym, refl, ap, ap₂, ◌∙◌, arith}
use Rattle.std.proofs.Common.{Result, Ok, Err, is_err, OnOk, OnErr}
use Rattle.std.proofs.lemmas.Bool.{true≢false}
use Rattle.std.specs.List.{list_any}
use Rattle.std.specs.Ordering.{nat_cmp, eq_by_cmp}
use Rattle.std.specs.Cmp.{nat_cmp_total, unsigned_tied}
use Rattle.std.specs.FinMap.{nat_cmp-IsAntisymmetric, get-empty, get-insert, contains_key}
use Rattle.std.specs.BTreeMap.{BTreeMap, get, is_at, Updates, IsEmpty}
use Rattle.std.specs.BTreeSet as sorted
use Rattle.policy_ctx.specs.declared.policy.KeyId.{KeyId}
use Rattle.user_claims.specs.Claims.{Claim, ClaimSet, id_cmp, claim_cmp, no_claims, has_claim, with_claim, without_claim}
use Rattle.user_claims.specs.ClaimCounts.{count_of_user, count_of_id}
use Rattle.user_claims.specs.Counted.{set_of, IsCounted}
use Rattle.key_counts.specs.CountForms.{count_or_none}
use Rattle.user_claims.proofs.ClaimOrder.{claim_cmp_total, id_cmp_total, id_cmp-IsAntisymmetric, id_ties}
use Rattle.user_claims.proofs.ClaimLemmas.{ties, same_claim, same_claim-symm, same_claims, some_or}
use Rattle.user_claims.proofs.ClaimLemmas.{has_claim-with_claim, has_claim-without_claim}
use Rattle.user_claims.proofs.ClaimLemmas.{count_of_user-with_claim, count_of_id-with_claim}
use Rattle.user_claims.proofs.ClaimLemmas.{count_of_user-without_claim, count_of_id-without_claim}
use Rattle.user_claims.proofs.ClaimLemmas.{count_of_user-none, count_of_id-none, count_of_user-held}
use Rattle.user_claims.proofs.ClaimLemmas.{count_of_id-held}
use Rattle.key_counts.proofs.CountLemmas.{raised, lowered, unwrap_or-counted}

-- ---- the set

pub contains-set_of : (ks : List Claim) (q : Claim)
    → contains_key (set_of ks) q ≡ list_any (is_at (claim_cmp q)) ks
contains-set_of [] q = ap is_some (get-empty claim_cmp q)
contains-set_of (k ∷ ks) q =
    ap is_some (get-insert claim_cmp_total (set_of ks) k tt q)
    ∙ (some_or (eq_by_cmp claim_cmp q k) _ ∙ ap (λ b. eq_by_cmp claim_cmp q k || b)
    (contains-set_of ks q))

-- what the stored set answers
pub has_kept : (s : sorted.BTreeSet Claim) (id : KeyId) (user : ℕ) (b : Bool)
    → b ≡ sorted.contains claim_cmp s (id, user) → b ≡ has_claim (set_of s.keys) id user
has_kept s id user b is = is ∙ sym (contains-set_of s.keys (id, user))

from_either : (k q : Claim) → is_at (claim_cmp k) q ≡ same_claim q k
from_either k q = ties k q ∙ same_claim-symm k q

or_is : (b x : Bool) → cond b true x ≡ (b || x)
or_is true x = refl
or_is false x = refl

and_is : (b x : Bool) → cond b false x ≡ (not b && x)
and_is true x = refl
and_is false x = refl

module _ (old new : sorted.BTreeSet Claim) (id : KeyId) (user : ℕ) where
  pub set_of-added : sorted.Updates claim_cmp old new (id, user) true
      → set_of new.keys ≡ with_claim (set_of old.keys) id user
  set_of-added updates = same_claims _ _ (λ q other.
      contains-set_of new.keys (q, other) ∙ (updates.0 (q, other)
      ∙ (or_is (is_at (claim_cmp (id, user)) (q, other)) _
      ∙ (ap₂ (λ a b. a || b) (from_either (id, user) (q, other)) (sym (contains-set_of old.keys (q, other)))
      ∙ sym (has_claim-with_claim (set_of old.keys) id user (q, other))))))

  pub set_of-removed : sorted.Updates claim_cmp old new (id, user) false
      → set_of new.keys ≡ without_claim (set_of old.keys) id user
  set_of-removed updates = same_claims _ _ (λ q other.
      contains-set_of new.keys (q, other) ∙ (updates.0 (q, other)
      ∙ (and_is (is_at (claim_cmp (id, user)) (q, other)) _
      ∙ (ap₂ (λ a b. not a && b) (from_either (id, user) (q, other))
      (sym (contains-set_of old.keys (q, other)))
      ∙ sym (has_claim-without_claim (set_of old.keys) id user (q, other))))))

-- ---- its counts

pub IsCounted-none : (by_user : BTreeMap ℕ ℕ) (by_id : BTreeMap KeyId ℕ) → IsEmpty by_user → IsEmpty by_id
    → IsCounted no_claims by_user by_id
IsCounted-none by_user by_id no_user no_id = record {
  users = λ user. rw no_user (ap count_or_none (sym (count_of_user-none user)));
  ids = λ id. rw no_id (ap count_or_none (sym (count_of_id-none id)));
}

-- a claim that is held was counted
module _ (claims : ClaimSet) (by_user : BTreeMap ℕ ℕ) (by_id : BTreeMap KeyId ℕ) (id : KeyId) (user : ℕ)
    (kept : IsCounted claims by_user by_id) (held : has_claim claims id user ≡ true) where
  pub user_counted : 0 < unwrap_or (get nat_cmp by_user user) 0
  user_counted =
      let count : unwrap_or (get nat_cmp by_user user) 0 ≡ count_of_user claims user =
      ap (λ o. unwrap_or o 0) (kept.users user) ∙ unwrap_or-counted (count_of_user claims user) in
      let some = count_of_user-held claims id user held in omega arith

  pub id_counted : 0 < unwrap_or (get id_cmp by_id id) 0
  id_counted =
      let count : unwrap_or (get id_cmp by_id id) 0 ≡ count_of_id claims id =
      ap (λ o. unwrap_or o 0) (kept.ids id) ∙ unwrap_or-counted (count_of_id claims id) in
      let some = count_of_id-held claims id user held in omega arith

module _ (claims : ClaimSet) (by_user by_user' : BTreeMap ℕ ℕ) (by_id by_id' : BTreeMap KeyId ℕ) (id : KeyId)
    (user : ℕ) (kept : IsCounted claims by_user by_id) where
  pub IsCounted-added : has_claim claims id user ≡ false
      → Updates nat_cmp by_user by_user' user (Some (unwrap_or (get nat_cmp by_user user) 0 + 1))
      → Updates id_cmp by_id by_id' id (Some (unwrap_or (get id_cmp by_id id) 0 + 1))
      → IsCounted (with_claim claims id user) by_user' by_id'
  IsCounted-added new of_user on_id = record {
    users =
        raised nat_cmp_total nat_cmp-IsAntisymmetric (count_of_user claims)
        (count_of_user (with_claim claims id user)) by_user by_user' user kept.users
        (λ q. count_of_user-with_claim claims id user q new
        ∙ ap (λ b. count_of_user claims q + cond b 1 0) (sym (unsigned_tied user q))) of_user;
    ids =
        raised id_cmp_total id_cmp-IsAntisymmetric (count_of_id claims)
        (count_of_id (with_claim claims id user)) by_id by_id' id kept.ids
        (λ q. count_of_id-with_claim claims id user q new
        ∙ ap (λ b. count_of_id claims q + cond b 1 0) (id_ties id q)) on_id;
  }

  pub IsCounted-removed : has_claim claims id user ≡ true
      → ((q : ℕ) → get nat_cmp by_user' q ≡ cond (eq_by_cmp nat_cmp user q)
      (count_or_none (unwrap_or (get nat_cmp by_user user) 0 - 1)) (get nat_cmp by_user q))
      → ((q : KeyId) → get id_cmp by_id' q ≡ cond (eq_by_cmp id_cmp id q)
      (count_or_none (unwrap_or (get id_cmp by_id id) 0 - 1)) (get id_cmp by_id q))
      → IsCounted (without_claim claims id user) by_user' by_id'
  IsCounted-removed held of_user on_id = record {
    users =
        lowered nat_cmp_total nat_cmp-IsAntisymmetric (count_of_user claims)
        (count_of_user (without_claim claims id user)) by_user by_user' user kept.users
        (λ q. ap (λ b. count_of_user (without_claim claims id user) q + cond b 1 0) (unsigned_tied user q)
        ∙ count_of_user-without_claim claims id user q held) of_user;
    ids =
        lowered id_cmp_total id_cmp-IsAntisymmetric (count_of_id claims)
        (count_of_id (without_claim claims id user)) by_id by_id' id kept.ids
        (λ q. ap (λ b. count_of_id (without_claim claims id user) q + cond b 1 0) (sym (id_ties id q))
        ∙ count_of_id-without_claim claims id user q held) on_id;
  }

-- ---- results

pub at_ok : {T E P : Type 0} (r : Result T E) → is_err r ≡ false → OnOk r P → P
at_ok (Ok x) n p = p
at_ok (Err e) n p = absurd (true≢false n)

pub at_err : {T E P : Type 0} (r : Result T E) → is_err r ≡ true → OnErr r P → P
at_err (Ok x) y p = absurd (true≢false (sym y))
at_err (Err e) y p = p
