-- The entries of a directory after a name was put in, or taken out.
use Rattle.std.proofs.Common.{◌≡◌, ◌≢◌, ℕ, suc, ◌+◌, ◌≤◌, Bool, true, false, cond, [], ◌∷◌, ◌++◌, length, Some, None, is_some, bytes_eq, inl, inr, ◌⊎◌, refl, sym, ap, subst, ◌∙◌, arith}
use Rattle.std.specs.List.{IsDistinct, AllByRecursion, list_any}
use Rattle.std.specs.Map.{lookup, remove_entry, keys_of}
use Rattle.std.proofs.lemmas.Bool.{cases_Bool}
use Rattle.std.proofs.lemmas.Bool.Decides.{not_from_Decides}
use Rattle.std.proofs.lemmas.Cmp.{nat_list_eq_equiv}
use Rattle.std.proofs.lemmas.Map.{lookup-remove_entry}
use Rattle.std.proofs.lemmas.Map.Keys.{IsDistinct-push}
use Rattle.std.proofs.lemmas.Map.Made.{is_some-lookup}
use Rattle.std.proofs.lemmas.Slice.Eq.{bytes_eq-Decides}
use Rattle.plain_tree.specs.Nodes.{Name, Children}
use Rattle.plain_tree.specs.BodyChanges.{with_child, without_child}

pub same_name : (a b : Name) → bytes_eq a b ≡ true → a ≡ b
same_name a b is = (bytes_eq-Decides a b).0 is

pub itself : (a : Name) → bytes_eq a a ≡ true
itself a = (bytes_eq-Decides a a).1 refl

pub other_name : (a b : Name) → (a ≢ b) → bytes_eq a b ≡ false
other_name a b differ = elim (cases_Bool (bytes_eq a b)) [
  | inl is ↦ absurd (differ (same_name a b is))
  | inr other ↦ other
]

pub cases_name : (a b : Name) → (a ≡ b) ⊎ (a ≢ b)
cases_name a b = elim (cases_Bool (bytes_eq a b)) [
  | inl is ↦ inl (same_name a b is)
  | inr other ↦ inr (not_from_Decides (bytes_eq a b) (bytes_eq-Decides a b) other)
]

-- ---- a look-up by any test, after a name was put in

pub put_found : (test : Name → Bool) (name : Name) (x : ℕ) (cs : Children) → test name ≡ true → lookup test cs ≡ None → lookup test (with_child name x cs) ≡ Some x
put_found test name x [] passes absent = ap (λ b. cond b (Some x) None) passes
put_found test name x (e ∷ cs) passes absent =
    elim (test e.0) as (λ b. cond b (Some e.1) (lookup test cs) ≡ None → cond b (Some e.1) (lookup test (with_child name x cs)) ≡ Some x) [
      | true ↦ λ h. absurd (cc)
      | false ↦ λ h. put_found test name x cs passes h
    ] absent

pub put_passed : (test : Name → Bool) (name : Name) (x : ℕ) (cs : Children) → test name ≡ false → lookup test (with_child name x cs) ≡ lookup test cs
put_passed test name x [] fails = ap (λ b. cond b (Some x) None) fails
put_passed test name x (e ∷ cs) fails = ap (cond (test e.0) (Some e.1)) (put_passed test name x cs fails)

-- ---- and after one was taken out

pub taken_passed : (test gone : Name → Bool) (cs : Children) → ((name : Name) → gone name ≡ true → test name ≡ false) → lookup test (remove_entry gone cs) ≡ lookup test cs
taken_passed test gone [] apart = refl
taken_passed test gone (e ∷ cs) apart =
    elim (cases_Bool (gone e.0)) [
      | inl is ↦
          ap (λ b. lookup test (cond b cs (e ∷ remove_entry gone cs))) is
          ∙ ap (λ b. cond b (Some e.1) (lookup test cs)) (sym (apart e.0 is))
      | inr other ↦
          ap (λ b. lookup test (cond b cs (e ∷ remove_entry gone cs))) other
          ∙ ap (cond (test e.0) (Some e.1)) (taken_passed test gone cs apart)
    ]

pub taken_other : (a name : Name) (cs : Children) → (a ≢ name) → lookup (bytes_eq a) (without_child name cs) ≡ lookup (bytes_eq a) cs
taken_other a name cs differ =
    taken_passed (bytes_eq a) (bytes_eq name) cs (λ b is. other_name a b (λ e. differ (e ∙ sym (same_name name b is))))

pub taken_here : (name : Name) (cs : Children) → IsDistinct bytes_eq (keys_of cs) → lookup (bytes_eq name) (without_child name cs) ≡ None
taken_here name cs distinct =
    lookup-remove_entry nat_list_eq_equiv (bytes_eq name) (λ a b is. ap (λ n. bytes_eq n b) (same_name name a is)) name cs distinct
    ∙ ap (λ b. cond b None (lookup (bytes_eq name) cs)) (itself name)

-- ---- no two have one name

all_taken : (P : Name → Type 0) (gone : Name → Bool) (cs : Children) → AllByRecursion P (keys_of cs) → AllByRecursion P (keys_of (remove_entry gone cs))
all_taken P gone [] all = tt
all_taken P gone (e ∷ cs) all =
    elim (gone e.0) as (λ b. AllByRecursion P (keys_of (cond b cs (e ∷ remove_entry gone cs)))) [
      | true ↦ all.1
      | false ↦ (all.0, all_taken P gone cs all.1)
    ]

pub taken_distinct : (gone : Name → Bool) (cs : Children) → IsDistinct bytes_eq (keys_of cs) → IsDistinct bytes_eq (keys_of (remove_entry gone cs))
unfolding IsDistinct
taken_distinct gone [] distinct = tt
taken_distinct gone (e ∷ cs) distinct =
    elim (gone e.0) as (λ b. IsDistinct bytes_eq (keys_of (cond b cs (e ∷ remove_entry gone cs)))) [
      | true ↦ distinct.1
      | false ↦ (all_taken (λ y. bytes_eq e.0 y ≡ false) gone cs distinct.0, taken_distinct gone cs distinct.1)
    ]

keys_put : (name : Name) (x : ℕ) (cs : Children) → keys_of (with_child name x cs) ≡ keys_of cs ++ name ∷ []
keys_put name x [] = refl
keys_put name x (e ∷ cs) = ap (λ ks. e.0 ∷ ks) (keys_put name x cs)

-- ---- how many there are

pub put_length : (name : Name) (x : ℕ) (cs : Children) → length (with_child name x cs) ≡ length cs + 1
put_length name x [] = refl
put_length name x (e ∷ cs) = ap (λ n. suc n) (put_length name x cs) ∙ omega arith

pub taken_length : (gone : Name → Bool) (cs : Children) → length (remove_entry gone cs) ≤ length cs
taken_length gone [] = omega arith
taken_length gone (e ∷ cs) =
    let rest : length (remove_entry gone cs) ≤ length cs = taken_length gone cs in
    elim (gone e.0) as (λ b. length (cond b cs (e ∷ remove_entry gone cs)) ≤ length (e ∷ cs)) [
      | true ↦ omega arith
      | false ↦ omega arith
    ]

pub taken_one : (gone : Name → Bool) (cs : Children) (x : ℕ) → lookup gone cs ≡ Some x → length (remove_entry gone cs) + 1 ≡ length cs
taken_one gone [] x found = absurd (cc)
taken_one gone (e ∷ cs) x found =
    elim (gone e.0) as (λ b. cond b (Some e.1) (lookup gone cs) ≡ Some x → length (cond b cs (e ∷ remove_entry gone cs)) + 1 ≡ length (e ∷ cs)) [
      | true ↦ λ h. omega arith
      | false ↦ λ h. let rest : length (remove_entry gone cs) + 1 ≡ length cs = taken_one gone cs x h in omega arith
    ] found

absent_key : (name : Name) (cs : Children) → lookup (bytes_eq name) cs ≡ None → list_any (bytes_eq name) (keys_of cs) ≡ false
absent_key name cs absent = sym (is_some-lookup (bytes_eq name) cs) ∙ ap is_some absent

pub put_distinct : (name : Name) (x : ℕ) (cs : Children) → lookup (bytes_eq name) cs ≡ None → IsDistinct bytes_eq (keys_of cs) → IsDistinct bytes_eq (keys_of (with_child name x cs))
put_distinct name x cs absent distinct =
    subst (IsDistinct bytes_eq) (sym (keys_put name x cs)) (IsDistinct-push nat_list_eq_equiv (keys_of cs) name distinct (absent_key name cs absent))
