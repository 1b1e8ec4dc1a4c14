-- What making one claim, and removing some, does to the other claims and to the counts.
use Rattle.std.proofs.Common.{◌≡◌, ℕ, ◌+◌, ◌-◌, ◌≤◌, ◌<◌, Bool, true, false, cond, eqb, not, ◌&&◌, ◌||◌}
use Rattle.std.proofs.Common.{Option, Some, None, is_some, sym, refl, ap, ap₂, ◌∙◌, subst, ⊎_elim, arith}
use Rattle.std.specs.Ordering.{nat_cmp, eq_by_cmp}
use Rattle.std.specs.Cmp.{unsigned_tied, both_tied}
use Rattle.std.specs.Cmp.Lexicographic.{slice_cmp, lists_ties}
use Rattle.std.proofs.lemmas.Bool.{cases_Bool, and_from, and_parts, or_left, true≢false, cond-true}
use Rattle.std.proofs.lemmas.Bool.{cond-false, eqb-true, eq-eqb}
use Rattle.std.proofs.lemmas.Cmp.{nat_eq_equiv}
use Rattle.std.specs.FinMap.{get, contains_key, insert, remove, retain_keys, len, get-insert, get-remove}
use Rattle.std.specs.FinMap.{len-insert, len-remove, len-empty, empty_of_len, same_map, get-empty}
use Rattle.policy_ctx.specs.declared.policy.KeyId.{KeyId}
use Rattle.policy_ctx.specs.KeyIds.{same_id}
use Rattle.policy_ctx.proofs.KeyIdLemmas.{same_id-refl, same_id-eq, same_id-symm}
use Rattle.user_claims.specs.Claims.{Claim, ClaimSet, claim_cmp, no_claims, has_claim, with_claim, without_claim, without_id}
use Rattle.user_claims.specs.ClaimCounts.{claims_of_user, claims_on_id, count_of_user, count_of_id}
use Rattle.user_claims.proofs.SubMaps.{get-part, part-insert, part-insert_other, part-remove}
use Rattle.user_claims.proofs.SubMaps.{part-remove_other, part_all, contains-part}
use Rattle.user_claims.proofs.ClaimOrder.{claim_cmp_total, claim_cmp-IsAntisymmetric}

-- ---- the tests

abbrev pub same_claim : Claim → Claim → Bool
same_claim a b = same_id a.0 b.0 && eqb a.1 b.1

pub same_claim-refl : (a : Claim) → same_claim a a ≡ true
same_claim-refl a = and_from _ _ (same_id-refl a.0) (eq-eqb a.1 a.1 refl)

pub same_claim-eq : (a b : Claim) → same_claim a b ≡ true → a ≡ b
same_claim-eq a b e =
    let parts = and_parts _ _ e in
    let ids = same_id-eq a.0 b.0 parts.0 in
    let users : a.1 ≡ b.1 = eqb-true a.1 b.1 parts.1 in
    λ i. (ids i, users i)

pub same_claim-symm : (a b : Claim) → same_claim a b ≡ same_claim b a
same_claim-symm a b = ap₂ (λ x y. x && y) (same_id-symm a.0 b.0) (nat_eq_equiv.symm a.1 b.1)

-- claims are equal in the order exactly when they are the same
pub ties : (a b : Claim) → eq_by_cmp claim_cmp a b ≡ same_claim a b
ties a b = sym (both_tied (same_id a.0 b.0) (eqb a.1 b.1) (slice_cmp nat_cmp a.0.0 b.0.0) (nat_cmp a.1 b.1)
    (lists_ties nat_cmp (λ x y. sym (unsigned_tied x y)) a.0.0 b.0.0) (sym (unsigned_tied a.1 b.1)))

-- ---- which claims are held

-- sets that have the same claims are one
pub same_claims : (a b : ClaimSet) → ((id : KeyId) (user : ℕ) → has_claim a id user ≡ has_claim b id user)
    → a ≡ b
same_claims a b same =
    same_map claim_cmp_total claim_cmp-IsAntisymmetric a b (λ q. marks (get a q) (get b q) (same q.0 q.1))
  where
    marks : (x y : Option (Unit {0})) → is_some x ≡ is_some y → x ≡ y
    marks None None e = refl
    marks (Some u) (Some v) e = refl
    marks None (Some v) e = absurd (true≢false (sym e))
    marks (Some u) None e = absurd (true≢false e)

pub has_claim-none : (id : KeyId) (user : ℕ) → has_claim no_claims id user ≡ false
has_claim-none id user = ap is_some (get-empty claim_cmp (id, user))

pub some_or : (b : Bool) (x : Option (Unit {0})) → is_some (cond b (Some tt) x) ≡ (b || is_some x)
some_or true x = refl
some_or false x = refl

none_or : (b : Bool) (x : Option (Unit {0})) → is_some (cond b None x) ≡ (not b && is_some x)
none_or true x = refl
none_or false x = refl

pub has_claim-with_claim : (cs : ClaimSet) (id : KeyId) (user : ℕ) (q : Claim)
    → has_claim (with_claim cs id user) q.0 q.1 ≡ (same_claim q (id, user) || has_claim cs q.0 q.1)
has_claim-with_claim cs id user q =
    ap is_some (get-insert claim_cmp_total cs (id, user) tt q)
    ∙ (some_or (eq_by_cmp claim_cmp q (id, user)) (get cs q)
    ∙ ap (λ b. b || has_claim cs q.0 q.1) (ties q (id, user)))

pub has_claim-without_claim : (cs : ClaimSet) (id : KeyId) (user : ℕ) (q : Claim)
    → has_claim (without_claim cs id user) q.0 q.1 ≡ (not (same_claim q (id, user)) && has_claim cs q.0 q.1)
has_claim-without_claim cs id user q =
    ap is_some (get-remove claim_cmp_total cs (id, user) q)
    ∙ (none_or (eq_by_cmp claim_cmp q (id, user)) (get cs q)
    ∙ ap (λ b. not b && has_claim cs q.0 q.1) (ties q (id, user)))

cond_and : (b : Bool) (x : Option (Unit {0})) → is_some (cond b x None) ≡ (b && is_some x)
cond_and true x = refl
cond_and false x = refl

pub has_claim-without_id : (cs : ClaimSet) (id : KeyId) (q : Claim)
    → has_claim (without_id cs id) q.0 q.1 ≡ (not (same_id q.0 id) && has_claim cs q.0 q.1)
has_claim-without_id cs id q =
    ap is_some (get-part claim_cmp_total claim_cmp-IsAntisymmetric cs (λ claim. not (same_id claim.0 id)) q)
    ∙ cond_and (not (same_id q.0 id)) (get cs q)

-- a part of the claims has those that are of it
pub part-of : (cs : ClaimSet) (p : Claim → Bool) (q : Claim)
    → has_claim (retain_keys cs p) q.0 q.1 ≡ (p q && has_claim cs q.0 q.1)
part-of cs p q =
    ap is_some (get-part claim_cmp_total claim_cmp-IsAntisymmetric cs p q) ∙ cond_and (p q) (get cs q)

-- a claim that is held already changes nothing
pub with_claim-held : (cs : ClaimSet) (id : KeyId) (user : ℕ) → has_claim cs id user ≡ true
    → with_claim cs id user ≡ cs
with_claim-held cs id user held =
    same_claims _ _ (λ q other. has_claim-with_claim cs id user (q, other) ∙ ⊎_elim
    (λ same. let here = same_claim-eq (q, other) (id, user) same in
    or_left (same_claim (q, other) (id, user)) (has_claim cs q other) same
    ∙ (sym held ∙ sym (ap (λ (c : Claim). has_claim cs c.0 c.1) here)))
    (λ apart. ap (λ b. b || has_claim cs q other) apart)
    (cases_Bool (same_claim (q, other) (id, user))))

-- removing a claim that isn't held changes nothing
pub without_claim-absent : (cs : ClaimSet) (id : KeyId) (user : ℕ) → has_claim cs id user ≡ false
    → without_claim cs id user ≡ cs
without_claim-absent cs id user absent =
    same_claims _ _ (λ q other. has_claim-without_claim cs id user (q, other) ∙ ⊎_elim
    (λ same. let here = same_claim-eq (q, other) (id, user) same in
    ap (λ b. not b && has_claim cs q other) same
    ∙ (sym absent ∙ sym (ap (λ (c : Claim). has_claim cs c.0 c.1) here)))
    (λ apart. ap (λ b. not b && has_claim cs q other) apart)
    (cases_Bool (same_claim (q, other) (id, user))))

-- a claim made and removed again
pub without-with_claim : (cs : ClaimSet) (id : KeyId) (user : ℕ) → has_claim cs id user ≡ false
    → without_claim (with_claim cs id user) id user ≡ cs
without-with_claim cs id user new = same_claims _ _ (λ q other.
    has_claim-without_claim (with_claim cs id user) id user (q, other)
    ∙ (ap (λ b. not (same_claim (q, other) (id, user)) && b) (has_claim-with_claim cs id user (q, other))
    ∙ ⊎_elim
    (λ same. let here = same_claim-eq (q, other) (id, user) same in
    ap (λ b. not b && (b || has_claim cs q other)) same
    ∙ (sym new ∙ sym (ap (λ (c : Claim). has_claim cs c.0 c.1) here)))
    (λ apart. ap (λ b. not b && (b || has_claim cs q other)) apart)
    (cases_Bool (same_claim (q, other) (id, user)))))

-- one claim on a key removed first
pub without_id-without_claim : (cs : ClaimSet) (id : KeyId) (user : ℕ)
    → without_id (without_claim cs id user) id ≡ without_id cs id
without_id-without_claim cs id user = same_claims _ _ (λ q other.
    has_claim-without_id (without_claim cs id user) id (q, other)
    ∙ (ap (λ b. not (same_id q id) && b) (has_claim-without_claim cs id user (q, other))
    ∙ (absorbed (same_id q id) (eqb other user) (has_claim cs q other)
    ∙ sym (has_claim-without_id cs id (q, other)))))
  where
    absorbed : (s t h : Bool) → (not s && (not (s && t) && h)) ≡ (not s && h)
    absorbed true t h = refl
    absorbed false t h = refl

-- if no user holds the key
pub without_id-none : (cs : ClaimSet) (id : KeyId) → ((user : ℕ) → has_claim cs id user ≡ false)
    → without_id cs id ≡ cs
without_id-none cs id none = same_claims _ _ (λ q other. has_claim-without_id cs id (q, other) ∙ ⊎_elim
    (λ same. ap (λ b. not b && has_claim cs q other) same
    ∙ sym (ap (λ k. has_claim cs k other) (same_id-eq q id same) ∙ none other))
    (λ apart. ap (λ b. not b && has_claim cs q other) apart)
    (cases_Bool (same_id q id)))

-- ---- counts

-- a set that has a claim isn't empty
len_above : (m : ClaimSet) (c : Claim) → contains_key m c ≡ true → 1 ≤ len m
len_above m c there =
    let some : len m ≡ 0 → ⊥ = λ none. true≢false
    (sym there ∙ (ap (λ n. contains_key n c) (empty_of_len m none) ∙ has_claim-none c.0 c.1)) in
    omega (arith, some)

part_none : (p : Claim → Bool) → retain_keys no_claims p ≡ no_claims
part_none p =
    part_all claim_cmp_total claim_cmp-IsAntisymmetric no_claims p
    (λ q bad. absurd (true≢false (sym bad ∙ has_claim-none q.0 q.1)))

module _ (cs : ClaimSet) (id : KeyId) (user : ℕ) (p : Claim → Bool) where
  module _ (new : has_claim cs id user ≡ false) where
    -- a claim that is new counts once, in each part that it is of
    part-with_claim : len (retain_keys (with_claim cs id user) p)
        ≡ len (retain_keys cs p) + cond (p (id, user)) 1 0
    part-with_claim = ⊎_elim
        (λ of. let one : cond {A = ℕ} (p (id, user)) 1 0 ≡ 1 = cond-true (p (id, user)) 1 0 of in
        let absent : contains_key (retain_keys cs p) (id, user) ≡ false =
        contains-part claim_cmp_total claim_cmp-IsAntisymmetric cs p (id, user) of ∙ new in
        let longer : len (insert (retain_keys cs p) (id, user) tt) ≡ len (retain_keys cs p) + 1 =
        len-insert claim_cmp_total (retain_keys cs p) (id, user) tt
        ∙ cond-false (contains_key (retain_keys cs p) (id, user)) _ _ absent in
        ap len (part-insert claim_cmp_total claim_cmp-IsAntisymmetric cs p (id, user) tt of)
        ∙ (longer ∙ ap (λ n. len (retain_keys cs p) + n) (sym one)))
        (λ apart. let none : cond {A = ℕ} (p (id, user)) 1 0 ≡ 0 = cond-false (p (id, user)) 1 0 apart in
        let same = ap len (part-insert_other claim_cmp_total claim_cmp-IsAntisymmetric cs p
        (id, user) tt apart) in omega arith)
        (cases_Bool (p (id, user)))

  module _ (held : has_claim cs id user ≡ true) where
    -- so does one that is removed
    part-without_claim : len (retain_keys (without_claim cs id user) p) + cond (p (id, user)) 1 0
        ≡ len (retain_keys cs p)
    part-without_claim = ⊎_elim
        (λ of. let one : cond {A = ℕ} (p (id, user)) 1 0 ≡ 1 = cond-true (p (id, user)) 1 0 of in
        let there : contains_key (retain_keys cs p) (id, user) ≡ true =
        contains-part claim_cmp_total claim_cmp-IsAntisymmetric cs p (id, user) of ∙ held in
        let some = len_above (retain_keys cs p) (id, user) there in
        let shorter : len (remove (retain_keys cs p) (id, user)) ≡ len (retain_keys cs p) - 1 =
        len-remove claim_cmp_total (retain_keys cs p) (id, user)
        ∙ cond-true (contains_key (retain_keys cs p) (id, user)) _ _ there in
        let parts = ap len (part-remove claim_cmp_total claim_cmp-IsAntisymmetric cs p (id, user) of) in
        omega arith)
        (λ apart. let none : cond {A = ℕ} (p (id, user)) 1 0 ≡ 0 = cond-false (p (id, user)) 1 0 apart in
        let same = ap len (part-remove_other claim_cmp_total claim_cmp-IsAntisymmetric cs p
        (id, user) apart) in omega arith)
        (cases_Bool (p (id, user)))

-- a claim that a user makes counts for that user alone, and on that key alone
pub count_of_user-with_claim : (cs : ClaimSet) (id : KeyId) (user other : ℕ) → has_claim cs id user ≡ false
    → count_of_user (with_claim cs id user) other ≡ count_of_user cs other + cond (eqb user other) 1 0
count_of_user-with_claim cs id user other new = part-with_claim cs id user (λ claim. eqb claim.1 other) new

pub count_of_id-with_claim : (cs : ClaimSet) (id : KeyId) (user : ℕ) (other : KeyId)
    → has_claim cs id user ≡ false → count_of_id (with_claim cs id user) other
    ≡ count_of_id cs other + cond (same_id id other) 1 0
count_of_id-with_claim cs id user other new = part-with_claim cs id user (λ claim. same_id claim.0 other) new

-- and so does one that is removed
pub count_of_user-without_claim : (cs : ClaimSet) (id : KeyId) (user other : ℕ) → has_claim cs id user ≡ true
    → count_of_user (without_claim cs id user) other + cond (eqb user other) 1 0 ≡ count_of_user cs other
count_of_user-without_claim cs id user other held =
    part-without_claim cs id user (λ claim. eqb claim.1 other) held

pub count_of_id-without_claim : (cs : ClaimSet) (id : KeyId) (user : ℕ) (other : KeyId)
    → has_claim cs id user ≡ true → count_of_id (without_claim cs id user) other + cond (same_id id other) 1 0
    ≡ count_of_id cs other
count_of_id-without_claim cs id user other held =
    part-without_claim cs id user (λ claim. same_id claim.0 other) held

-- a limit on each user's claims is preserved if it is checked before a new claim
pub count_of_user-with_claim-le : (cs : ClaimSet) (id : KeyId) (user other limit : ℕ)
    → (has_claim cs id user ≡ false → count_of_user cs user + 1 ≤ limit)
    → count_of_user cs other ≤ limit → count_of_user (with_claim cs id user) other ≤ limit
count_of_user-with_claim-le cs id user other limit looked below = ⊎_elim
    (λ held. subst (λ ds. count_of_user ds other ≤ limit) (sym (with_claim-held cs id user held)) below)
    (λ new. let counts = count_of_user-with_claim cs id user other new in ⊎_elim
    (λ own. let same : user ≡ other = eqb-true user other own in
    let one : cond {A = ℕ} (eqb user other) 1 0 ≡ 1 = cond-true (eqb user other) 1 0 own in
    let before : count_of_user cs user ≡ count_of_user cs other = ap (count_of_user cs) same in
    let room : count_of_user cs user + 1 ≤ limit = looked new in omega arith)
    (λ apart. let none : cond {A = ℕ} (eqb user other) 1 0 ≡ 0 = cond-false (eqb user other) 1 0 apart in
    omega arith)
    (cases_Bool (eqb user other)))
    (cases_Bool (has_claim cs id user))

pub count_of_user-without_claim-le : (cs : ClaimSet) (id : KeyId) (user other : ℕ)
    → count_of_user (without_claim cs id user) other ≤ count_of_user cs other
count_of_user-without_claim-le cs id user other = ⊎_elim
    (λ held. let counts = count_of_user-without_claim cs id user other held in omega arith)
    (λ absent. let same = ap (λ ds. count_of_user ds other) (without_claim-absent cs id user absent) in
    omega arith)
    (cases_Bool (has_claim cs id user))

-- the user's own claim is among the user's, and among those on the key
pub count_of_user-held : (cs : ClaimSet) (id : KeyId) (user : ℕ) → has_claim cs id user ≡ true
    → 1 ≤ count_of_user cs user
count_of_user-held cs id user held = len_above (claims_of_user cs user) (id, user)
    (contains-part claim_cmp_total claim_cmp-IsAntisymmetric cs (λ claim. eqb claim.1 user) (id, user)
    (eq-eqb user user refl) ∙ held)

pub count_of_id-held : (cs : ClaimSet) (id : KeyId) (user : ℕ) → has_claim cs id user ≡ true
    → 1 ≤ count_of_id cs id
count_of_id-held cs id user held = len_above (claims_on_id cs id) (id, user)
    (contains-part claim_cmp_total claim_cmp-IsAntisymmetric cs (λ claim. same_id claim.0 id) (id, user)
    (same_id-refl id) ∙ held)

pub count_of_user-none : (user : ℕ) → count_of_user no_claims user ≡ 0
count_of_user-none user = ap len (part_none (λ claim. eqb claim.1 user)) ∙ len-empty claim_cmp (Unit {0})

pub count_of_id-none : (id : KeyId) → count_of_id no_claims id ≡ 0
count_of_id-none id = ap len (part_none (λ claim. same_id claim.0 id)) ∙ len-empty claim_cmp (Unit {0})

-- with each claim on the key that is removed there is one less
pub count_of_id-fewer : (cs : ClaimSet) (id : KeyId) (user : ℕ) → has_claim cs id user ≡ true
    → count_of_id (without_claim cs id user) id < count_of_id cs id
count_of_id-fewer cs id user held =
    let counts = count_of_id-without_claim cs id user id held in
    let one : cond {A = ℕ} (same_id id id) 1 0 ≡ 1 = cond-true (same_id id id) 1 0 (same_id-refl id) in
    omega arith
