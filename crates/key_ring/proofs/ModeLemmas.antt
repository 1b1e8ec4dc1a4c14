-- Mode keys and their users, when users come and go.
use Rattle.std.proofs.Common.{◌≡◌, ℕ, ◌+◌, ◌-◌, ◌<◌, ◌≤◌, ◌^◌, true, false, cond, eqb, Option, Some, None, sym, refl, ap, ◌∙◌, subst, ⊎_elim, arith}
use Rattle.std.specs.Option.{option_map, option_map_or}
use Rattle.std.specs.BTreeMap as tree
use Rattle.std.specs.BTreeMap.{BTreeMap}
use Rattle.std.specs.Ordering.{eq_by_cmp}
use Rattle.std.specs.FinMap as map
use Rattle.std.specs.FinMap.{get-insert, get-remove, get-empty}
use Rattle.std.proofs.lemmas.Bool.{cases_Bool, cond-true, cond-false, eqb-true, eq-eqb, true≢false, false_from_ne_true}
use Rattle.policy_ctx.specs.declared.policy.KeyId.{KeyId}
use Rattle.fsc_keys.specs.declared.file_keys.FileKey.{FileKey}
use Rattle.user_claims.specs.Claims.{id_cmp}
use Rattle.user_claims.proofs.ClaimOrder.{id_cmp_total, id_cmp-IsAntisymmetric}
use Rattle.key_counts.proofs.CountLemmas.{tied}
use Rattle.key_counts.proofs.ShownLemmas.{get-shown, shown-inserted, shown-removed}
use Rattle.key_ring.specs.KeptModes.{ModeBox, modes_of}
use Rattle.key_ring.specs.declared.mode_key.ModeKey.{ModeKey}
use Rattle.key_ring.specs.Modes.{ModeMap}
use Rattle.key_ring.specs.ModeUsers.{users_in, more_users, with_users, one_user_less, without_user, IsUsed, AreUsed}

is_some_of : {X : Type 0} (x y : X) → Some x ≡ Some y → x ≡ y
is_some_of x y e = ap (λ o. option_map_or (λ v. v) o x) e

users_more : (key : FileKey) (users : ℕ) (o : Option ModeKey) → (more_users key users o).users ≡ option_map_or (λ mode. mode.users) o 0 + users
users_more key users None = omega arith
users_more key users (Some mode) = refl

module _ (those : ModeMap) (id : KeyId) where
  pub users_in-with_users : (key : FileKey) (users : ℕ) (q : KeyId) → users_in (with_users those id key users) q ≡ cond (eq_by_cmp id_cmp q id) (users_in those id + users) (users_in those q)
  users_in-with_users key users q =
      ap (λ o. option_map_or (λ mode. mode.users) o 0) (get-insert id_cmp_total those id (more_users key users (map.get those id)) q) ∙ ⊎_elim
      (λ here. ap (λ o. option_map_or (λ mode. mode.users) o 0) (cond-true (eq_by_cmp id_cmp q id) _ _ here)
      ∙ (users_more key users (map.get those id) ∙ sym (cond-true (eq_by_cmp id_cmp q id) _ _ here)))
      (λ apart. ap (λ o. option_map_or (λ mode. mode.users) o 0) (cond-false (eq_by_cmp id_cmp q id) _ _ apart) ∙ sym (cond-false (eq_by_cmp id_cmp q id) _ _ apart))
      (cases_Bool (eq_by_cmp id_cmp q id))

  module _ (kept : IsUsed those) where
    written : (mode : ModeKey) → 1 ≤ mode.users → IsUsed (map.insert those id mode)
    written mode some q found is = ⊎_elim
        (λ here. let same : mode ≡ found = is_some_of mode found (sym (cond-true (eq_by_cmp id_cmp q id) (Some mode) (map.get those q) here) ∙ (sym (get-insert id_cmp_total those id mode q) ∙ is)) in
        subst (λ (m : ModeKey). 1 ≤ m.users) same some)
        (λ apart. kept q found (sym (cond-false (eq_by_cmp id_cmp q id) (Some mode) (map.get those q) apart) ∙ (sym (get-insert id_cmp_total those id mode q) ∙ is)))
        (cases_Bool (eq_by_cmp id_cmp q id))

    pub IsUsed-with_users : (key : FileKey) (users : ℕ) → 1 ≤ users → IsUsed (with_users those id key users)
    IsUsed-with_users key users some = let sum = users_more key users (map.get those id) in written (more_users key users (map.get those id)) (omega arith)

    removed : IsUsed (map.remove those id)
    removed q found is = ⊎_elim
        (λ here. absurd (no_key found (sym (cond-true (eq_by_cmp id_cmp q id) None (map.get those q) here) ∙ (sym (get-remove id_cmp_total those id q) ∙ is))))
        (λ apart. kept q found (sym (cond-false (eq_by_cmp id_cmp q id) None (map.get those q) apart) ∙ (sym (get-remove id_cmp_total those id q) ∙ is)))
        (cases_Bool (eq_by_cmp id_cmp q id))
      where
        no_key : (mode : ModeKey) → None ≡ Some mode → ⊥
        no_key mode bad = true≢false (sym (ap (λ o. option_map_or (λ m. true) o false) bad))

    pub IsUsed-without_user : IsUsed (without_user those id)
    IsUsed-without_user = at (map.get those id) refl
      where
        at : (o : Option ModeKey) → map.get those id ≡ o → IsUsed (one_user_less those id o)
        at None is = kept
        at (Some mode) is = let some = kept id mode is in ⊎_elim
            (λ last. subst IsUsed (sym (cond-true (eqb mode.users 1) (map.remove those id) _ last)) removed)
            (λ more. let other : mode.users ≡ 1 → ⊥ = λ one. true≢false (sym (eq-eqb mode.users 1 one) ∙ more) in
            subst IsUsed (sym (cond-false (eqb mode.users 1) (map.remove those id) _ more)) (written (record mode { users = mode.users - 1 }) (omega (arith, some, other))))
            (cases_Bool (eqb mode.users 1))

  -- no identifier has more users than before
  pub users_in-without_user-le : (q : KeyId) → users_in (without_user those id) q ≤ users_in those q
  users_in-without_user-le q = at (map.get those id) refl
    where
      at : (o : Option ModeKey) → map.get those id ≡ o → users_in (one_user_less those id o) q ≤ users_in those q
      at None is = omega arith
      at (Some mode) is = ⊎_elim
          (λ last. subst (λ (m : ModeMap). users_in m q ≤ users_in those q) (sym (cond-true (eqb mode.users 1) (map.remove those id) _ last)) gone)
          (λ more. subst (λ (m : ModeMap). users_in m q ≤ users_in those q) (sym (cond-false (eqb mode.users 1) (map.remove those id) _ more)) (fewer mode is))
          (cases_Bool (eqb mode.users 1))
        where
          gone : users_in (map.remove those id) q ≤ users_in those q
          gone = let is_now = ap (λ o. option_map_or (λ (m : ModeKey). m.users) o 0) (get-remove id_cmp_total those id q) in ⊎_elim
              (λ here. let none : users_in (map.remove those id) q ≡ 0 = is_now ∙ ap (λ o. option_map_or (λ (m : ModeKey). m.users) o 0) (cond-true (eq_by_cmp id_cmp q id) None (map.get those q) here) in omega arith)
              (λ apart. let same : users_in (map.remove those id) q ≡ users_in those q = is_now ∙ ap (λ o. option_map_or (λ (m : ModeKey). m.users) o 0) (cond-false (eq_by_cmp id_cmp q id) None (map.get those q) apart) in omega arith)
              (cases_Bool (eq_by_cmp id_cmp q id))

          fewer : (mode : ModeKey) → map.get those id ≡ Some mode → users_in (map.insert those id (record mode { users = mode.users - 1 })) q ≤ users_in those q
          fewer mode is = let is_now = ap (λ o. option_map_or (λ (m : ModeKey). m.users) o 0) (get-insert id_cmp_total those id (record mode { users = mode.users - 1 }) q) in ⊎_elim
              (λ here. let now : users_in (map.insert those id (record mode { users = mode.users - 1 })) q ≡ mode.users - 1 =
              is_now ∙ ap (λ o. option_map_or (λ (m : ModeKey). m.users) o 0) (cond-true (eq_by_cmp id_cmp q id) _ _ here) in
              let before : users_in those q ≡ mode.users = ap (users_in those) (tied id_cmp-IsAntisymmetric q id here) ∙ ap (λ o. option_map_or (λ (m : ModeKey). m.users) o 0) is in omega arith)
              (λ apart. let same : users_in (map.insert those id (record mode { users = mode.users - 1 })) q ≡ users_in those q =
              is_now ∙ ap (λ o. option_map_or (λ (m : ModeKey). m.users) o 0) (cond-false (eq_by_cmp id_cmp q id) _ _ apart) in omega arith)
              (cases_Bool (eq_by_cmp id_cmp q id))

-- ---- the whole

pub AreUsed-held_contents : (c n : ModeMap) (id : KeyId) (key : FileKey) (users : ℕ) → AreUsed (record { contents = c; names = n }) → 1 ≤ users → users_in c id + users_in n id + users < 2 ^ 32
    → AreUsed (record { contents = with_users c id key users; names = n })
AreUsed-held_contents c n id key users used some room = record {
  contents_used = IsUsed-with_users c id used.contents_used key users some;
  names_used = used.names_used;
  fit = λ q. let count = users_in-with_users c id key users q in ⊎_elim
      (λ here. let more : users_in (with_users c id key users) q ≡ users_in c id + users = count ∙ cond-true (eq_by_cmp id_cmp q id) _ _ here in
      let other : users_in n q ≡ users_in n id = ap (users_in n) (tied id_cmp-IsAntisymmetric q id here) in omega arith)
      (λ apart. let same : users_in (with_users c id key users) q ≡ users_in c q = count ∙ cond-false (eq_by_cmp id_cmp q id) _ _ apart in
      let before = used.fit q in omega arith)
      (cases_Bool (eq_by_cmp id_cmp q id));
}

pub AreUsed-held_names : (c n : ModeMap) (id : KeyId) (key : FileKey) (users : ℕ) → AreUsed (record { contents = c; names = n }) → 1 ≤ users → users_in c id + users_in n id + users < 2 ^ 32
    → AreUsed (record { contents = c; names = with_users n id key users })
AreUsed-held_names c n id key users used some room = record {
  contents_used = used.contents_used;
  names_used = IsUsed-with_users n id used.names_used key users some;
  fit = λ q. let count = users_in-with_users n id key users q in ⊎_elim
      (λ here. let more : users_in (with_users n id key users) q ≡ users_in n id + users = count ∙ cond-true (eq_by_cmp id_cmp q id) _ _ here in
      let other : users_in c q ≡ users_in c id = ap (users_in c) (tied id_cmp-IsAntisymmetric q id here) in omega arith)
      (λ apart. let same : users_in (with_users n id key users) q ≡ users_in n q = count ∙ cond-false (eq_by_cmp id_cmp q id) _ _ apart in
      let before = used.fit q in omega arith)
      (cases_Bool (eq_by_cmp id_cmp q id));
}

pub AreUsed-left_contents : (c n : ModeMap) (id : KeyId) → AreUsed (record { contents = c; names = n }) → AreUsed (record { contents = without_user c id; names = n })
AreUsed-left_contents c n id used = record {
  contents_used = IsUsed-without_user c id used.contents_used;
  names_used = used.names_used;
  fit = λ q. let fewer = users_in-without_user-le c id q in let before = used.fit q in omega arith;
}

pub AreUsed-left_names : (c n : ModeMap) (id : KeyId) → AreUsed (record { contents = c; names = n }) → AreUsed (record { contents = c; names = without_user n id })
AreUsed-left_names c n id used = record {
  contents_used = used.contents_used;
  names_used = IsUsed-without_user n id used.names_used;
  fit = λ q. let fewer = users_in-without_user-le n id q in let before = used.fit q in omega arith;
}

pub AreUsed-none : AreUsed (record { contents = map.empty; names = map.empty })
AreUsed-none = record {
  contents_used = λ id mode is. absurd (true≢false (sym (ap (λ o. option_map_or (λ m. true) o false) (sym (get-empty id_cmp id) ∙ is))));
  names_used = λ id mode is. absurd (true≢false (sym (ap (λ o. option_map_or (λ m. true) o false) (sym (get-empty id_cmp id) ∙ is))));
  fit = λ id. let none = ap (λ o. option_map_or (λ (m : ModeKey). m.users) o 0) (get-empty id_cmp id) in omega arith;
}

-- ---- as they are stored

module _ (m : BTreeMap KeyId ModeBox) (id : KeyId) where
  pub mode_kept : (o : Option ModeBox) → o ≡ tree.get id_cmp m id → map.get (modes_of m.entries) id ≡ option_map (λ mode. mode.value) o
  mode_kept o is = get-shown id_cmp_total (λ (mode : ModeBox). mode.value) m.entries id ∙ ap (option_map (λ (mode : ModeBox). mode.value)) (sym is)

  module _ (n : BTreeMap KeyId ModeBox) (mode written : ModeBox) (there : Some mode ≡ tree.get id_cmp m id) (updates : (q : KeyId) → tree.get id_cmp n q ≡ cond (eq_by_cmp id_cmp id q) (Some written) (tree.get id_cmp m q)) where
    pub held_more : (key : FileKey) (total users : ℕ) → written.value ≡ record mode.value { users = total } → total ≡ users_in (modes_of m.entries) id + users → modes_of n.entries ≡ with_users (modes_of m.entries) id key users
    held_more key total users is count =
        let found = mode_kept (Some mode) there in
        let sum : total ≡ mode.value.users + users = count ∙ ap (λ o. option_map_or (λ (v : ModeKey). v.users) o 0 + users) found in
        shown-inserted id_cmp_total (λ (mode : ModeBox). mode.value) id_cmp-IsAntisymmetric m n id written updates
        ∙ ap (map.insert (modes_of m.entries) id) (is ∙ (ap (λ (t : ℕ). let v : ModeKey = record mode.value { users = t } in v) sum ∙ sym (ap (more_users key users) found)))

    pub left_fewer : (left : ℕ) → written.value ≡ record mode.value { users = left } → left ≡ users_in (modes_of m.entries) id - 1 → (left ≡ 0 → ⊥) → modes_of n.entries ≡ without_user (modes_of m.entries) id
    left_fewer left is count some =
        let found = mode_kept (Some mode) there in
        let fewer : left ≡ mode.value.users - 1 = count ∙ ap (λ o. option_map_or (λ (v : ModeKey). v.users) o 0 - 1) found in
        let more : eqb mode.value.users 1 ≡ false = false_from_ne_true (eqb mode.value.users 1) (λ one. let last : mode.value.users ≡ 1 = eqb-true mode.value.users 1 one in some (omega arith)) in
        shown-inserted id_cmp_total (λ (mode : ModeBox). mode.value) id_cmp-IsAntisymmetric m n id written updates
        ∙ (ap (map.insert (modes_of m.entries) id) (is ∙ ap (λ (t : ℕ). let v : ModeKey = record mode.value { users = t } in v) fewer)
        ∙ sym (ap (one_user_less (modes_of m.entries) id) found ∙ cond-false (eqb mode.value.users 1) (map.remove (modes_of m.entries) id) _ more))

  pub held_first : (n : BTreeMap KeyId ModeBox) (written : ModeBox) (key : FileKey) (total users : ℕ) → None ≡ tree.get id_cmp m id → ((q : KeyId) → tree.get id_cmp n q ≡ cond (eq_by_cmp id_cmp id q) (Some written) (tree.get id_cmp m q))
      → written.value ≡ record { key = key; users = users } → modes_of n.entries ≡ with_users (modes_of m.entries) id key users
  held_first n written key total users none updates is =
      shown-inserted id_cmp_total (λ (mode : ModeBox). mode.value) id_cmp-IsAntisymmetric m n id written updates
      ∙ ap (map.insert (modes_of m.entries) id) (is ∙ sym (ap (more_users key users) (mode_kept None none)))

  pub left_none : (n : BTreeMap KeyId ModeBox) → ((q : KeyId) → tree.get id_cmp n q ≡ cond (eq_by_cmp id_cmp id q) None (tree.get id_cmp m q)) → users_in (modes_of m.entries) id ≡ 1 → modes_of n.entries ≡ without_user (modes_of m.entries) id
  left_none n updates one =
      shown-removed id_cmp_total (λ (mode : ModeBox). mode.value) id_cmp-IsAntisymmetric m n id updates ∙ sym (at (map.get (modes_of m.entries) id) one)
    where
      at : (o : Option ModeKey) → option_map_or (λ v. v.users) o 0 ≡ 1 → one_user_less (modes_of m.entries) id o ≡ map.remove (modes_of m.entries) id
      at None bad = absurd (omega (arith, bad))
      at (Some mode) last = cond-true (eqb mode.users 1) (map.remove (modes_of m.entries) id) _ (eq-eqb mode.users 1 last)
