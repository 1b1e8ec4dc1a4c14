-- Mode keys with one user more and with one less: how many users each has, and which keys there are.
use Rattle.std.proofs.Common.{◌≡◌, ℕ, ◌+◌, ◌-◌, ◌≤◌, Bool, true, false, cond, ◌&&◌, eqb, Option, Some, None, inl, inr, ◌⊎◌, sym, refl, ap, subst, ◌∙◌, arith}
use Rattle.std.specs.Option.{option_map_or}
use Rattle.std.specs.Ordering.{eq_by_cmp}
use Rattle.std.specs.FinMap as map
use Rattle.std.specs.FinMap.{get-insert, get-remove, same_map}
use Rattle.std.proofs.lemmas.Bool.{cases_Bool, eqb-true}
use Rattle.policy_ctx.specs.declared.policy.KeyId.{KeyId}
use Rattle.policy_ctx.specs.KeyIds.{same_id}
use Rattle.policy_ctx.proofs.KeyIdLemmas.{same_id-refl, same_id-eq, same_id-symm}
use Rattle.fsc_keys.specs.declared.file_keys.FileKey.{FileKey}
use Rattle.fsc_keys.specs.declared.file_keys.KeyKind.{KeyKind}
use Rattle.fsc_keys.specs.declared.file_keys.KeyKind.TheVariants.{Contents, Names}
use Rattle.user_claims.specs.Claims.{id_cmp}
use Rattle.user_claims.proofs.ClaimOrder.{id_cmp_total, id_cmp-IsAntisymmetric, id_ties}
use Rattle.key_ring.specs.declared.mode_key.ModeKey.{ModeKey}
use Rattle.key_ring.specs.Modes.{Modes, ModeMap, of_kind, with_kind, mode_at}
use Rattle.key_ring.specs.ModeUsers.{users_in, more_users, with_users, one_user_less, without_user, IsUsed, AreUsed}
use Rattle.mount_state.specs.StoredKinds.{same_kind}
use Rattle.mount_files.proofs.HandleCounts.{one_if}

-- ---- look-ups by identifier

tie : (q id : KeyId) → eq_by_cmp id_cmp q id ≡ same_id id q
tie q id = sym (id_ties q id) ∙ same_id-symm q id

module _ (those : ModeMap) (id : KeyId) where
  put_at : (mode : ModeKey) (q : KeyId) → map.get (map.insert those id mode) q ≡ cond (same_id id q) (Some mode) (map.get those q)
  put_at mode q = get-insert id_cmp_total those id mode q ∙ ap (λ b. cond b (Some mode) (map.get those q)) (tie q id)

  taken_at : (q : KeyId) → map.get (map.remove those id) q ≡ cond (same_id id q) None (map.get those q)
  taken_at q = get-remove id_cmp_total those id q ∙ ap (λ b. cond b None (map.get those q)) (tie q id)

abbrev count : Option ModeKey → ℕ
count o = option_map_or (λ (mode : ModeKey). mode.users) o 0

some_same : (a b : ModeKey) → Some a ≡ Some b → a ≡ b
some_same a b is = cc

-- what a look-up finds, here or elsewhere
found : (b : Bool) (o x : Option ModeKey) (mode : ModeKey) → cond b o x ≡ Some mode → ((b ≡ true) × (o ≡ Some mode)) ⊎ ((b ≡ false) × (x ≡ Some mode))
found true o x mode is = inl (refl, is)
found false o x mode is = inr (refl, is)

-- ---- in the map of one kind

more_count : (key : FileKey) (o : Option ModeKey) → (more_users key 1 o).users ≡ count o + 1
more_count key None = refl
more_count key (Some mode) = refl

module _ (those : ModeMap) (id : KeyId) where
  more_in : (key : FileKey) (q : KeyId) → users_in (with_users those id key 1) q ≡ users_in those q + one_if (same_id id q)
  more_in key q = elim (cases_Bool (same_id id q)) [
    | inl here ↦
        ap count (put_at those id (more_users key 1 (map.get those id)) q ∙ ap (λ b. cond b (Some (more_users key 1 (map.get those id))) (map.get those q)) here)
        ∙ more_count key (map.get those id) ∙ ap (λ k. users_in those k + 1) (same_id-eq id q here)
        ∙ ap (λ b. users_in those q + one_if b) (sym here)
    | inr apart ↦
        let is : users_in (with_users those id key 1) q ≡ users_in those q =
        ap count (put_at those id (more_users key 1 (map.get those id)) q ∙ ap (λ b. cond b (Some (more_users key 1 (map.get those id))) (map.get those q)) apart) in
        let none : one_if (same_id id q) ≡ 0 = ap one_if apart in
        omega arith
  ]

  less_in : 1 ≤ users_in those id → (q : KeyId) → users_in (without_user those id) q + one_if (same_id id q) ≡ users_in those q
  less_in some q = at (map.get those id) refl
    where
      at : (o : Option ModeKey) → map.get those id ≡ o → users_in (one_user_less those id o) q + one_if (same_id id q) ≡ users_in those q
      at None is = let none : users_in those id ≡ 0 = ap count is in absurd (omega arith)
      at (Some mode) is =
          let users : users_in those id ≡ mode.users = ap count is in
          let same : same_id id q ≡ true → users_in those q ≡ mode.users = λ here. ap (users_in those) (sym (same_id-eq id q here)) ∙ users in
          elim (cases_Bool (eqb mode.users 1)) [
            | inl last ↦
                let one : mode.users ≡ 1 = eqb-true mode.users 1 last in
                let now : users_in (one_user_less those id (Some mode)) q ≡ count (cond (same_id id q) None (map.get those q)) =
                ap (λ b. users_in (cond b (map.remove those id) (map.insert those id (record mode { users = mode.users - 1 }))) q) last ∙ ap count (taken_at those id q) in
                elim (cases_Bool (same_id id q)) [
                  | inl here ↦
                      let was = same here in
                      let none : users_in (one_user_less those id (Some mode)) q ≡ 0 = now ∙ ap (λ b. count (cond b None (map.get those q))) here in
                      let gone : one_if (same_id id q) ≡ 1 = ap one_if here in
                      omega arith
                  | inr apart ↦
                      let stays : users_in (one_user_less those id (Some mode)) q ≡ users_in those q = now ∙ ap (λ b. count (cond b None (map.get those q))) apart in
                      let none : one_if (same_id id q) ≡ 0 = ap one_if apart in
                      omega arith
                ]
            | inr others ↦
                let now : users_in (one_user_less those id (Some mode)) q ≡ count (cond (same_id id q) (Some (record mode { users = mode.users - 1 })) (map.get those q)) =
                ap (λ b. users_in (cond b (map.remove those id) (map.insert those id (record mode { users = mode.users - 1 }))) q) others
                ∙ ap count (put_at those id (record mode { users = mode.users - 1 }) q) in
                elim (cases_Bool (same_id id q)) [
                  | inl here ↦
                      let was = same here in
                      let fewer : users_in (one_user_less those id (Some mode)) q ≡ mode.users - 1 =
                      now ∙ ap (λ b. count (cond b (Some (record mode { users = mode.users - 1 })) (map.get those q))) here in
                      let gone : one_if (same_id id q) ≡ 1 = ap one_if here in
                      omega arith
                  | inr apart ↦
                      let stays : users_in (one_user_less those id (Some mode)) q ≡ users_in those q =
                      now ∙ ap (λ b. count (cond b (Some (record mode { users = mode.users - 1 })) (map.get those q))) apart in
                      let none : one_if (same_id id q) ≡ 0 = ap one_if apart in
                      omega arith
                ]
          ]

  -- what holds of each key that is there, and of the one that is added
  module _ (P : KeyId → FileKey → Type 0) (old : (q : KeyId) (mode : ModeKey) → map.get those q ≡ Some mode → P q mode.key) where
    each_more : (key : FileKey) → P id key → (q : KeyId) (mode : ModeKey) → map.get (with_users those id key 1) q ≡ Some mode → P q mode.key
    each_more key fresh q mode is =
        elim (found (same_id id q) (Some (more_users key 1 (map.get those id))) (map.get those q) mode (sym (put_at those id (more_users key 1 (map.get those id)) q) ∙ is)) [
          | inl here ↦
              subst (λ (k : KeyId). P k mode.key) (same_id-eq id q here.0)
              (subst (λ (m : ModeKey). P id m.key) (some_same (more_users key 1 (map.get those id)) mode here.1) (at (map.get those id) refl))
          | inr apart ↦ old q mode apart.1
        ]
      where
        at : (o : Option ModeKey) → map.get those id ≡ o → P id (more_users key 1 o).key
        at None none = fresh
        at (Some m) there = old id m there

    each_less : (q : KeyId) (mode : ModeKey) → map.get (without_user those id) q ≡ Some mode → P q mode.key
    each_less q mode = at (map.get those id) refl
      where
        at : (o : Option ModeKey) → map.get those id ≡ o → map.get (one_user_less those id o) q ≡ Some mode → P q mode.key
        at None none is = old q mode is
        at (Some m) there is = elim (cases_Bool (eqb m.users 1)) [
          | inl last ↦
              elim (found (same_id id q) None (map.get those q) mode (sym (taken_at those id q)
              ∙ sym (ap (λ b. map.get (cond b (map.remove those id) (map.insert those id (record m { users = m.users - 1 }))) q) last) ∙ is)) [
                | inl here ↦ let bad : None ≡ Some mode = here.1 in absurd (cc)
                | inr apart ↦ old q mode apart.1
              ]
          | inr others ↦
              elim (found (same_id id q) (Some (record m { users = m.users - 1 })) (map.get those q) mode (sym (put_at those id (record m { users = m.users - 1 }) q)
              ∙ sym (ap (λ b. map.get (cond b (map.remove those id) (map.insert those id (record m { users = m.users - 1 }))) q) others) ∙ is)) [
                | inl here ↦
                    subst (λ (k : KeyId). P k mode.key) (same_id-eq id q here.0)
                    (subst (λ (x : ModeKey). P id x.key) (some_same (record m { users = m.users - 1 }) mode here.1) (old id m there))
                | inr apart ↦ old q mode apart.1
              ]
        ]

  -- a user that is taken away again
  back_in : IsUsed those → (key : FileKey) → without_user (with_users those id key 1) id ≡ those
  back_in used key =
      ap (one_user_less (with_users those id key 1) id) (put_at those id (more_users key 1 (map.get those id)) id
      ∙ ap (λ b. cond b (Some (more_users key 1 (map.get those id))) (map.get those id)) (same_id-refl id))
      ∙ at (map.get those id) refl
    where
      same : (m : ModeMap) → ((q : KeyId) → map.get m q ≡ map.get those q) → m ≡ those
      same m alike = same_map id_cmp_total id_cmp-IsAntisymmetric m those alike

      at : (o : Option ModeKey) → map.get those id ≡ o → one_user_less (map.insert those id (more_users key 1 o)) id (Some (more_users key 1 o)) ≡ those
      at None none = same _ (λ q. taken_at (map.insert those id (record { key = key; users = 1 })) id q ∙ elim (cases_Bool (same_id id q)) [
        | inl here ↦ ap (λ b. cond b None (map.get (map.insert those id (record { key = key; users = 1 })) q)) here ∙ sym none ∙ ap (map.get those) (same_id-eq id q here)
        | inr apart ↦
            ap (λ b. cond b None (map.get (map.insert those id (record { key = key; users = 1 })) q)) apart
            ∙ put_at those id (record { key = key; users = 1 }) q ∙ ap (λ b. cond b (Some (record { key = key; users = 1 })) (map.get those q)) apart
      ])
      at (Some mode) there =
          let some = used id mode there in
          let others : eqb (mode.users + 1) 1 ≡ false = elim (cases_Bool (eqb (mode.users + 1) 1)) [
            | inl last ↦ let one : mode.users + 1 ≡ 1 = eqb-true (mode.users + 1) 1 last in absurd (omega arith)
            | inr others ↦ others
          ] in
          let as_before : mode.users + 1 - 1 ≡ mode.users = omega arith in
          ap (λ b. cond b (map.remove (map.insert those id (record mode { users = mode.users + 1 })) id)
          (map.insert (map.insert those id (record mode { users = mode.users + 1 })) id (record mode { users = mode.users + 1 - 1 }))) others
          ∙ same _ (λ q. put_at (map.insert those id (record mode { users = mode.users + 1 })) id (record mode { users = mode.users + 1 - 1 }) q ∙ elim (cases_Bool (same_id id q)) [
            | inl here ↦
                ap (λ b. cond b (Some (record mode { users = mode.users + 1 - 1 })) (map.get (map.insert those id (record mode { users = mode.users + 1 })) q)) here
                ∙ ap (λ (n : ℕ). let m : ModeKey = record mode { users = n } in Some m) as_before ∙ sym there ∙ ap (map.get those) (same_id-eq id q here)
            | inr apart ↦
                ap (λ b. cond b (Some (record mode { users = mode.users + 1 - 1 })) (map.get (map.insert those id (record mode { users = mode.users + 1 })) q)) apart
                ∙ put_at those id (record mode { users = mode.users + 1 }) q ∙ ap (λ b. cond b (Some (record mode { users = mode.users + 1 })) (map.get those q)) apart
          ])

-- ---- in the maps of both kinds

-- the mode keys with one user more of this one, and with one less
abbrev pub held : Modes → KeyId → KeyKind → FileKey → Modes
held modes id kind key = with_kind modes kind (with_users (of_kind modes kind) id key 1)

abbrev pub released : Modes → KeyId → KeyKind → Modes
released modes id kind = with_kind modes kind (without_user (of_kind modes kind) id)

abbrev pub is_it : KeyId → KeyKind → KeyId → KeyKind → Bool
is_it id kind q k = same_id id q && same_kind k kind

and_true : (b : Bool) → (b && true) ≡ b
and_true true = refl
and_true false = refl

and_false : (b : Bool) → (b && false) ≡ false
and_false true = refl
and_false false = refl

counts_none : (n : ℕ) (b : Bool) → n ≡ n + one_if (b && false)
counts_none n b = let none : one_if (b && false) ≡ 0 = ap one_if (and_false b) in omega arith

same_count : (a b : ℕ) (x : Bool) → a ≡ b + one_if x → a ≡ b + one_if (x && true)
same_count a b x is = is ∙ ap (λ y. b + one_if y) (sym (and_true x))

less_count : (a b : ℕ) (x : Bool) → a + one_if x ≡ b → a + one_if (x && true) ≡ b
less_count a b x is = ap (λ y. a + one_if y) (and_true x) ∙ is

pub users_held : (modes : Modes) (id : KeyId) (kind : KeyKind) (key : FileKey) (q : KeyId) (k : KeyKind)
    → users_in (of_kind (held modes id kind key) k) q ≡ users_in (of_kind modes k) q + one_if (is_it id kind q k)
users_held modes id Contents key q Contents = same_count _ _ (same_id id q) (more_in modes.contents id key q)
users_held modes id Contents key q Names = counts_none (users_in modes.names q) (same_id id q)
users_held modes id Names key q Contents = counts_none (users_in modes.contents q) (same_id id q)
users_held modes id Names key q Names = same_count _ _ (same_id id q) (more_in modes.names id key q)

pub users_released : (modes : Modes) (id : KeyId) (kind : KeyKind) → 1 ≤ users_in (of_kind modes kind) id → (q : KeyId) (k : KeyKind)
    → users_in (of_kind (released modes id kind) k) q + one_if (is_it id kind q k) ≡ users_in (of_kind modes k) q
users_released modes id Contents some q Contents = less_count _ _ (same_id id q) (less_in modes.contents id some q)
users_released modes id Contents some q Names = sym (counts_none (users_in modes.names q) (same_id id q))
users_released modes id Names some q Contents = sym (counts_none (users_in modes.contents q) (same_id id q))
users_released modes id Names some q Names = less_count _ _ (same_id id q) (less_in modes.names id some q)

module _ (P : KeyId → KeyKind → FileKey → Type 0) where
  pub each_held : (modes : Modes) → ((q : KeyId) (k : KeyKind) (mode : ModeKey) → mode_at modes q k ≡ Some mode → P q k mode.key)
      → (id : KeyId) (kind : KeyKind) (key : FileKey) → P id kind key
      → (q : KeyId) (k : KeyKind) (mode : ModeKey) → mode_at (held modes id kind key) q k ≡ Some mode → P q k mode.key
  each_held modes old id Contents key fresh q Contents mode is = each_more modes.contents id (λ i x. P i Contents x) (λ i m there. old i Contents m there) key fresh q mode is
  each_held modes old id Contents key fresh q Names mode is = old q Names mode is
  each_held modes old id Names key fresh q Contents mode is = old q Contents mode is
  each_held modes old id Names key fresh q Names mode is = each_more modes.names id (λ i x. P i Names x) (λ i m there. old i Names m there) key fresh q mode is

  pub each_released : (modes : Modes) → ((q : KeyId) (k : KeyKind) (mode : ModeKey) → mode_at modes q k ≡ Some mode → P q k mode.key)
      → (id : KeyId) (kind : KeyKind)
      → (q : KeyId) (k : KeyKind) (mode : ModeKey) → mode_at (released modes id kind) q k ≡ Some mode → P q k mode.key
  each_released modes old id Contents q Contents mode is = each_less modes.contents id (λ i x. P i Contents x) (λ i m there. old i Contents m there) q mode is
  each_released modes old id Contents q Names mode is = old q Names mode is
  each_released modes old id Names q Contents mode is = old q Contents mode is
  each_released modes old id Names q Names mode is = each_less modes.names id (λ i x. P i Names x) (λ i m there. old i Names m there) q mode is

-- a user that is taken away again leaves no trace
pub held_back : (modes : Modes) → AreUsed modes → (id : KeyId) (kind : KeyKind) (key : FileKey) → released (held modes id kind key) id kind ≡ modes
held_back modes used id Contents key = ap (λ (m : ModeMap). let all : Modes = record modes { contents = m } in all) (back_in modes.contents id used.contents_used key)
held_back modes used id Names key = ap (λ (m : ModeMap). let all : Modes = record modes { names = m } in all) (back_in modes.names id used.names_used key)

pub itself : (id : KeyId) (kind : KeyKind) → is_it id kind id kind ≡ true
itself id Contents = ap (λ b. b && true) (same_id-refl id)
itself id Names = ap (λ b. b && true) (same_id-refl id)

-- the one that was added has a user
pub held_some : (modes : Modes) (id : KeyId) (kind : KeyKind) (key : FileKey) → 1 ≤ users_in (of_kind (held modes id kind key) kind) id
held_some modes id kind key =
    let count = users_held modes id kind key id kind in
    let one : one_if (is_it id kind id kind) ≡ 1 = ap one_if (itself id kind) in
    omega arith
