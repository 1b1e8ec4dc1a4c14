-- Which keys are present, and how many claims a user is left with, when claims are made and removed.
use Rattle.std.proofs.Common.{◌≡◌, ℕ, ◌+◌, ◌-◌, ◌≤◌, Bool, true, false, cond, eqb, not, ◌&&◌, ◌||◌, List, []}
use Rattle.std.proofs.Common.{◌∷◌, length, sym, refl, ap, ◌∙◌, subst, ⊎_elim, arith}
use Rattle.std.specs.List.{list_any}
use Rattle.std.specs.Map.{keys_of}
use Rattle.std.specs.Ordering.{eq_by_cmp, is_eq}
use Rattle.std.specs.Cmp.{tied_itself}
use Rattle.std.proofs.lemmas.Bool.{cases_Bool, or_left, or_right, true≢false, not_from_false, cond-true}
use Rattle.std.proofs.lemmas.Bool.{cond-false, eqb-true, eq-eqb}
use Rattle.std.specs.FinMap.{contains_key, len, entries, contains_key-keys, len-entries, len-remove}
use Rattle.policy_ctx.specs.declared.policy.KeyId.{KeyId}
use Rattle.policy_ctx.specs.KeyIds.{same_id}
use Rattle.user_claims.specs.Claims.{Claim, ClaimSet, claim_cmp, no_claims, has_claim, with_claim, without_claim, without_id}
use Rattle.user_claims.specs.ClaimCounts.{claims_of_user, claims_on_id, count_of_user, count_of_id, is_present}
use Rattle.user_claims.proofs.ClaimOrder.{claim_cmp_total, claim_cmp-IsAntisymmetric}
use Rattle.user_claims.proofs.SubMaps.{contains-part}
use Rattle.policy_ctx.proofs.KeyIdLemmas.{same_id-eq, same_id-refl, same_id-symm}
use Rattle.user_claims.proofs.ClaimLemmas.{same_claims, with_claim-held, without_claim-absent}
use Rattle.user_claims.proofs.ClaimLemmas.{has_claim-without_claim, has_claim-without_id, count_of_id-none}
use Rattle.user_claims.proofs.ClaimLemmas.{count_of_id-held, count_of_user-held, same_claim}
use Rattle.user_claims.proofs.ClaimLemmas.{count_of_id-with_claim, count_of_id-without_claim, part-of}

-- ---- counts and presence

pub count_of_id-absent : (cs : ClaimSet) (id : KeyId) → is_present cs id ≡ false → count_of_id cs id ≡ 0
count_of_id-absent cs id absent = ⊎_elim
    (λ none. eqb-true (count_of_id cs id) 0 none)
    (λ some. absurd (true≢false (sym (not_from_false (eqb (count_of_id cs id) 0) some) ∙ absent)))
    (cases_Bool (eqb (count_of_id cs id) 0))

pub count_of_id-present : (cs : ClaimSet) (id : KeyId) → is_present cs id ≡ true → 1 ≤ count_of_id cs id
count_of_id-present cs id there =
    let some : count_of_id cs id ≡ 0 → ⊥ = λ none. true≢false (sym there ∙ ap (λ n. not (eqb n 0)) none) in
    omega (arith, some)

pub is_present-some : (cs : ClaimSet) (id : KeyId) → 1 ≤ count_of_id cs id → is_present cs id ≡ true
is_present-some cs id some = ⊎_elim
    (λ none. let zero : count_of_id cs id ≡ 0 = eqb-true (count_of_id cs id) 0 none in absurd (omega arith))
    (λ more. not_from_false (eqb (count_of_id cs id) 0) more)
    (cases_Bool (eqb (count_of_id cs id) 0))

pub is_present-none : (id : KeyId) → is_present no_claims id ≡ false
is_present-none id = ap (λ n. not (eqb n 0)) (count_of_id-none id)

-- ---- keys and the users with a claim on them

pub is_present-held : (cs : ClaimSet) (id : KeyId) (user : ℕ) → has_claim cs id user ≡ true
    → is_present cs id ≡ true
is_present-held cs id user held = is_present-some cs id (count_of_id-held cs id user held)

pub has_claim-absent : (cs : ClaimSet) (id : KeyId) (user : ℕ) → is_present cs id ≡ false
    → has_claim cs id user ≡ false
has_claim-absent cs id user absent = ⊎_elim
    (λ held. absurd (true≢false (sym (is_present-held cs id user held) ∙ absent)))
    (λ none. none)
    (cases_Bool (has_claim cs id user))

-- a key that is present has a user with a claim on it
pub holder : (cs : ClaimSet) (id : KeyId) → is_present cs id ≡ true
    → (user : ℕ) × (has_claim cs id user ≡ true)
holder cs id there = first (entries (claims_on_id cs id)) refl
  where
    here : (claim : Claim) → contains_key (claims_on_id cs id) claim ≡ true
        → (user : ℕ) × (has_claim cs id user ≡ true)
    here claim held = ⊎_elim
        (λ same. (
          claim.1,
          subst (λ k. has_claim cs k claim.1 ≡ true) (same_id-eq claim.0 id same)
              (sym (contains-part claim_cmp_total claim_cmp-IsAntisymmetric cs (λ c. same_id c.0 id) claim same)
              ∙ held),
        ))
        (λ apart. absurd (true≢false (sym held ∙ (part-of cs (λ c. same_id c.0 id) claim
        ∙ ap (λ b. b && has_claim cs claim.0 claim.1) apart))))
        (cases_Bool (same_id claim.0 id))

    first : (es : List (Claim × Unit {0})) → entries (claims_on_id cs id) ≡ es
        → (user : ℕ) × (has_claim cs id user ≡ true)
    first [] none =
        let some = count_of_id-present cs id there in
        let zero : count_of_id cs id ≡ 0 = len-entries (claims_on_id cs id) ∙ ap length none in
        absurd (omega arith)
    first (e ∷ es) is = here e.0 (contains_key-keys (claims_on_id cs id) e.0
        ∙ (ap (λ l. list_any (eq_by_cmp claim_cmp e.0) (keys_of l)) is
        ∙ or_left (eq_by_cmp claim_cmp e.0 e.0) (list_any (eq_by_cmp claim_cmp e.0) (keys_of es))
        (ap is_eq (tied_itself claim_cmp_total e.0))))

-- ---- claims made and removed

or-false : (b : Bool) → (b || false) ≡ b
or-false true = refl
or-false false = refl

more_than : (n : ℕ) (b : Bool) → not (eqb (n + cond b 1 0) 0) ≡ (not (eqb n 0) || b)
more_than n true = ⊎_elim
    (λ none. let zero : n + 1 ≡ 0 = eqb-true (n + 1) 0 none in absurd (omega arith))
    (λ some. not_from_false (eqb (n + 1) 0) some ∙ sym (or_right (not (eqb n 0)) true refl))
    (cases_Bool (eqb (n + 1) 0))
more_than n false =
    let same : n + 0 ≡ n = omega arith in ap (λ x. not (eqb x 0)) same ∙ sym (or-false (not (eqb n 0)))

pub is_present-with_claim : (cs : ClaimSet) (id : KeyId) (user : ℕ) (other : KeyId)
    → is_present (with_claim cs id user) other ≡ (is_present cs other || same_id id other)
is_present-with_claim cs id user other = ⊎_elim
    (λ held. ap (λ ds. is_present ds other) (with_claim-held cs id user held) ∙ ⊎_elim
    (λ same. let there : is_present cs other ≡ true =
    subst (λ k. is_present cs k ≡ true) (same_id-eq id other same) (is_present-held cs id user held) in
    there ∙ sym (or_left (is_present cs other) (same_id id other) there))
    (λ apart. sym (ap (λ b. is_present cs other || b) apart ∙ or-false (is_present cs other)))
    (cases_Bool (same_id id other)))
    (λ new. ap (λ n. not (eqb n 0)) (count_of_id-with_claim cs id user other new)
    ∙ more_than (count_of_id cs other) (same_id id other))
    (cases_Bool (has_claim cs id user))

-- a key of another identifier is as present as before
pub is_present-without_claim_other : (cs : ClaimSet) (id : KeyId) (user : ℕ) (other : KeyId)
    → same_id id other ≡ false → is_present (without_claim cs id user) other ≡ is_present cs other
is_present-without_claim_other cs id user other apart = ⊎_elim
    (λ held. let none : cond {A = ℕ} (same_id id other) 1 0 ≡ 0 = cond-false (same_id id other) 1 0 apart in
    let counts = count_of_id-without_claim cs id user other held in
    let same : count_of_id (without_claim cs id user) other ≡ count_of_id cs other = omega arith in
    ap (λ n. not (eqb n 0)) same)
    (λ absent. ap (λ ds. is_present ds other) (without_claim-absent cs id user absent))
    (cases_Bool (has_claim cs id user))

pub is_present-without_id : (cs : ClaimSet) (id : KeyId) → is_present (without_id cs id) id ≡ false
is_present-without_id cs id = ⊎_elim
    (λ there. let found = holder (without_id cs id) id there in
    absurd (true≢false (sym found.1 ∙ (has_claim-without_id cs id (id, found.0)
    ∙ ap (λ b. not b && has_claim cs id found.0) (same_id-refl id)))))
    (λ absent. absent)
    (cases_Bool (is_present (without_id cs id) id))

pub is_present-without_id_other : (cs : ClaimSet) (id other : KeyId) → same_id id other ≡ false
    → is_present (without_id cs id) other ≡ is_present cs other
is_present-without_id_other cs id other apart = ap (λ m. not (eqb (len m) 0)) (same_claims _ _ (λ q user.
    part-of (without_id cs id) (λ c. same_id c.0 other) (q, user)
    ∙ (ap (λ b. same_id q other && b) (has_claim-without_id cs id (q, user))
    ∙ (kept (same_id q other) (same_id q id) (has_claim cs q user)
    (λ same. ap (λ k. same_id k id) (same_id-eq q other same) ∙ (same_id-symm other id ∙ apart))
    ∙ sym (part-of cs (λ c. same_id c.0 other) (q, user))))))
  where
    kept : (s t h : Bool) → (s ≡ true → t ≡ false) → (s && (not t && h)) ≡ (s && h)
    kept true t h other_key = ap (λ b. not b && h) (other_key refl)
    kept false t h other_key = refl

-- ---- what a user is left with

-- if a key is cleared, each user with a claim on it has one claim less
pub count_of_user-without_id : (cs : ClaimSet) (id : KeyId) (user : ℕ)
    → count_of_user (without_id cs id) user + cond (has_claim cs id user) 1 0 ≡ count_of_user cs user
count_of_user-without_id cs id user =
    let fewer : count_of_user (without_id cs id) user ≡ len (without_claim (claims_of_user cs user) id user) =
    ap len (same_claims _ _ (λ q other.
    part-of (without_id cs id) (λ c. eqb c.1 user) (q, other)
    ∙ (ap (λ b. eqb other user && b) (has_claim-without_id cs id (q, other))
    ∙ (moved (same_id q id) (eqb other user) (has_claim cs q other)
    ∙ (ap (λ b. not (same_claim (q, other) (id, user)) && b) (sym (part-of cs (λ c. eqb c.1 user) (q, other)))
    ∙ sym (has_claim-without_claim (claims_of_user cs user) id user (q, other))))))) in
    let own : contains_key (claims_of_user cs user) (id, user) ≡ has_claim cs id user =
    contains-part claim_cmp_total claim_cmp-IsAntisymmetric cs (λ c. eqb c.1 user) (id, user)
    (eq-eqb user user refl) in ⊎_elim
    (λ held. let one : cond {A = ℕ} (has_claim cs id user) 1 0 ≡ 1 =
    cond-true (has_claim cs id user) 1 0 held in
    let some = count_of_user-held cs id user held in
    let left : len (without_claim (claims_of_user cs user) id user) ≡ count_of_user cs user - 1 =
    len-remove claim_cmp_total (claims_of_user cs user) (id, user)
    ∙ cond-true (contains_key (claims_of_user cs user) (id, user)) _ _ (own ∙ held) in omega arith)
    (λ absent. let none : cond {A = ℕ} (has_claim cs id user) 1 0 ≡ 0 =
    cond-false (has_claim cs id user) 1 0 absent in
    let left : len (without_claim (claims_of_user cs user) id user) ≡ count_of_user cs user =
    len-remove claim_cmp_total (claims_of_user cs user) (id, user)
    ∙ cond-false (contains_key (claims_of_user cs user) (id, user)) _ _ (own ∙ absent) in omega arith)
    (cases_Bool (has_claim cs id user))
  where
    moved : (s t h : Bool) → (t && (not s && h)) ≡ (not (s && t) && (t && h))
    moved true true h = refl
    moved true false h = refl
    moved false true h = refl
    moved false false h = refl

pub count_of_user-without_id-le : (cs : ClaimSet) (id : KeyId) (user : ℕ)
    → count_of_user (without_id cs id) user ≤ count_of_user cs user
count_of_user-without_id-le cs id user = let counts = count_of_user-without_id cs id user in omega arith
