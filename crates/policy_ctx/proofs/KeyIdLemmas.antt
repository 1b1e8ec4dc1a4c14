-- Comparing identifiers.
use Rattle.std.proofs.Common.{◌≡◌, refl, true}
use Rattle.std.proofs.lemmas.Cmp.{nat_list_eq_equiv}
use Rattle.std.proofs.lemmas.Slice.Eq.{bytes_eq-Decides}
use Rattle.policy_ctx.specs.declared.policy.KeyId.{KeyId}
use Rattle.policy_ctx.specs.KeyIds.{same_id}

pub same_id-refl : (a : KeyId) → same_id a a ≡ true
same_id-refl a = (bytes_eq-Decides a.0 a.0).1 refl

pub same_id-eq : (a b : KeyId) → same_id a b ≡ true → a ≡ b
same_id-eq a b e = let same = (bytes_eq-Decides a.0 b.0).0 e in λ i. record { 0 = same i }

pub same_id-symm : (a b : KeyId) → same_id a b ≡ same_id b a
same_id-symm a b = nat_list_eq_equiv.symm a.0 b.0
