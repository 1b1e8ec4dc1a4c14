-- The first claim at or after (id, 0): if it isn't on the key, no claim is.
use Rattle.std.proofs.Common.{◌≡◌, ℕ, true, false, List, [], ◌∷◌, sym, refl, ap, ◌∙◌, subst, ⊎_elim, arith}
use Rattle.std.proofs.Common.{◌<◌}
use Rattle.std.specs.declared.cmp.Ordering.{Ordering}
use Rattle.std.specs.declared.cmp.Ordering.TheVariants.{Less, Equal, Greater}
use Rattle.std.specs.declared.ops.Bound.TheVariants.{Included, Unbounded}
use Rattle.std.specs.Ordering.{nat_cmp, ordering_then, ordering_reverse, is_gt, is_eq}
use Rattle.std.specs.Cmp.{tied_itself, ranked}
use Rattle.std.specs.BTreeMap.Range.{IsInRange}
use Rattle.std.specs.BTreeSet.{BTreeSet, IsKeyRangeOf, contains}
use Rattle.std.proofs.lemmas.Bool.{cases_Bool, true≢false}
use Rattle.policy_ctx.specs.declared.policy.KeyId.{KeyId}
use Rattle.policy_ctx.specs.KeyIds.{same_id}
use Rattle.user_claims.specs.Claims.{Claim, id_cmp, claim_cmp}
use Rattle.policy_ctx.proofs.KeyIdLemmas.{same_id-symm}
use Rattle.user_claims.proofs.ClaimOrder.{id_cmp_total, id_ties}

-- no number is below 0
not_above : (r : Ordering) (n : ℕ) → r ≡ nat_cmp 0 n → is_gt r ≡ false
not_above Less n e = refl
not_above Equal n e = refl
not_above Greater n e = let below : n < 0 = ranked 0 n Greater e in absurd (omega arith)

-- two identifiers that differ are not each before the other
clash : (o p q : Ordering) → is_eq o ≡ false → is_gt (ordering_then o p) ≡ false
    → is_gt (ordering_then (ordering_reverse o) q) ≡ false → ⊥
clash Less p q apart low high = true≢false high
clash Equal p q apart low high = true≢false apart
clash Greater p q apart low high = true≢false low

module _ (s : BTreeSet Claim) (id : KeyId) (r : List Claim)
    (part : IsKeyRangeOf claim_cmp (Included (id, 0)) Unbounded s r) where
  at_or_behind : (user : ℕ) → IsInRange claim_cmp (Included (id, 0)) Unbounded (id, user)
  at_or_behind user = (
    ap (λ o. is_gt (ordering_then o (nat_cmp 0 user))) (tied_itself id_cmp_total id)
        ∙ not_above (nat_cmp 0 user) user refl,
    tt,
  )

  pub none_behind : r ≡ [] → (user : ℕ) → contains claim_cmp s (id, user) ≡ false
  none_behind empty user = part.5 empty (id, user) (at_or_behind user)

  module _ (first : Claim) (rest : List Claim) (is : r ≡ first ∷ rest) where
    pub first_there : contains claim_cmp s first ≡ true
    first_there = (subst (λ l. IsKeyRangeOf claim_cmp (Included (id, 0)) Unbounded s l) is part).1.1

    pub none_but_others : same_id first.0 id ≡ false → (user : ℕ) → contains claim_cmp s (id, user) ≡ false
    none_but_others apart user =
        let there = subst (λ l. IsKeyRangeOf claim_cmp (Included (id, 0)) Unbounded s l) is part in ⊎_elim
        (λ held. absurd (clash (id_cmp id first.0) (nat_cmp 0 first.1) (nat_cmp first.1 user)
        (sym (id_ties id first.0) ∙ (same_id-symm id first.0 ∙ apart))
        there.1.0.0
        (ap (λ o. is_gt (ordering_then o (nat_cmp first.1 user))) (sym (id_cmp_total.antisymm first.0 id))
        ∙ there.2 (id, user) (at_or_behind user) held)))
        (λ absent. absent)
        (cases_Bool (contains claim_cmp s (id, user)))
