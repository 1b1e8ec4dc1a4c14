-- The orders of identifiers and of claims are total, and separate all of them.
use Rattle.std.proofs.Common.{◌≡◌, sym}
use Rattle.std.specs.Ordering.{nat_cmp, eq_by_cmp}
use Rattle.std.specs.Cmp.{IsTotalOrder, nat_cmp_total, on_total, then_total, unsigned_tied}
use Rattle.std.specs.Cmp.Lexicographic.{nat_list_cmp_total, lists_ties}
use Rattle.std.proofs.lemmas.Map.Lookups.{exact_pairs, exact_unsigned, exact_bytes}
use Rattle.std.specs.FinMap.{IsAntisymmetric}
use Rattle.policy_ctx.specs.declared.policy.KeyId.{KeyId}
use Rattle.policy_ctx.specs.KeyIds.{same_id}
use Rattle.user_claims.specs.Claims.{Claim, id_cmp, claim_cmp}

pub id_cmp_total : IsTotalOrder id_cmp
id_cmp_total = on_total (λ (k : KeyId). k.0) nat_list_cmp_total

pub id_cmp-IsAntisymmetric : IsAntisymmetric id_cmp
id_cmp-IsAntisymmetric a b e = let same = exact_bytes a.0 b.0 e in λ i. record { 0 = same i }

-- identifiers are equal in the order exactly when they are the same
pub id_ties : (a b : KeyId) → same_id a b ≡ eq_by_cmp id_cmp a b
id_ties a b = lists_ties nat_cmp (λ x y. sym (unsigned_tied x y)) a.0 b.0

pub claim_cmp_total : IsTotalOrder claim_cmp
claim_cmp_total =
    then_total (on_total (λ (c : Claim). c.0) id_cmp_total) (on_total (λ (c : Claim). c.1) nat_cmp_total)

pub claim_cmp-IsAntisymmetric : IsAntisymmetric claim_cmp
claim_cmp-IsAntisymmetric = exact_pairs id_cmp nat_cmp id_cmp-IsAntisymmetric exact_unsigned
