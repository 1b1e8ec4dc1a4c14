-- The status is Absent exactly when nothing of the key is held.
use Rattle.std.proofs.Common.{◌≡◌, ℕ, ◌<◌, ◌≤◌, true, false, not, eqb, ◌&&◌, ◌||◌, List, Option, Some, None, is_some, inl, inr, refl, sym, ap, subst, ◌∙◌, arith}
use Rattle.std.specs.Option.{option_map_or}
use Rattle.std.proofs.lemmas.Bool.{cases_Bool, cases_lt, or_cases, and_parts, true≢false, eq-eqb, eqb-true}
use Rattle.policy_ctx.specs.declared.policy.KeyId.{KeyId}
use Rattle.policy_ctx.specs.KeyIds.{same_id}
use Rattle.policy_ctx.specs.Context.{id_in, is_by_mode_in}
use Rattle.policy_ctx.proofs.KeyIdLemmas.{same_id-refl, same_id-eq}
use Rattle.fsc_keys.specs.declared.file_keys.KeyKind.{KeyKind}
use Rattle.fsc_keys.specs.declared.file_keys.KeyKind.TheVariants.{Contents, Names}
use Rattle.number_map.specs.Numbered.{get}
use Rattle.user_claims.specs.ClaimCounts.{is_present}
use Rattle.key_ring.specs.Holding.{Holding, secret_of}
use Rattle.key_ring.specs.Modes.{Modes, of_kind, mode_at}
use Rattle.key_ring.specs.ModeUsers.{users_in, users_of, AreUsed, IsUsed}
use Rattle.key_ring.specs.declared.mode_key.ModeKey.{ModeKey}
use Rattle.inode_refs.specs.CacheMaps.{Cache, key_at, pins_of}
use Rattle.inode_refs.specs.Evictions.{is_unpinned, users_of as inode_users}
use Rattle.inode_refs.specs.declared.node_key.NodeKey.{NodeKey}
use Rattle.inode_refs.proofs.UserLemmas.{one_user}
use Rattle.inode_refs.proofs.UserLemmas.{some_user as cached_user}
use Rattle.dentry_cache.specs.Names.{NameList}
use Rattle.disk_tree.specs.DiskTree.{Disk}
use Rattle.mount_model.specs.PlainMount.{HandleList}
use Rattle.mount_model.specs.OpenHandles.{has_handle}
use Rattle.mount_state.specs.Contexts.{context_on_disk, names_id, has_own, has_shared, names_key_on_disk, uses_own, uses_mode}
use Rattle.mount_state.specs.StoredKinds.{kind_on_disk, same_kind}
use Rattle.mount_state.specs.CachedNames.{NamesForget}
use Rattle.mount_state.specs.Discipline.{Forgets}
use Rattle.mount_state.specs.KeyUse.{HoldsNothing, is_in_use, is_unlocked, is_unlocked_under}
use Rattle.mount_state.proofs.UserLemmas.{one_on, some_from, users_from, some_user}

-- ---- contexts

own_names : (id : KeyId) (o : Option (List ℕ)) → has_own id o ≡ true → names_id id o ≡ true
own_names id None is = is
own_names id (Some context) is = (and_parts (same_id (id_in context) id) (not (is_by_mode_in context)) is).0

shared_names : (id : KeyId) (o : Option (List ℕ)) → has_shared id o ≡ true → names_id id o ≡ true
shared_names id None is = is
shared_names id (Some context) is = (and_parts (same_id (id_in context) id) (is_by_mode_in context) is).0

own_or_shared : (id : KeyId) (o : Option (List ℕ)) → names_id id o ≡ true → has_shared id o ≡ false → has_own id o ≡ true
own_or_shared id None is shared = is
own_or_shared id (Some context) is shared =
    λ i. is i && not (unshared i)
  where
    unshared : is_by_mode_in context ≡ false
    unshared = sym (ap (λ b. b && is_by_mode_in context) is) ∙ shared

-- one context names one key
one_id : (a b : KeyId) (o : Option (List ℕ)) → has_own a o ≡ true → has_own b o ≡ true → a ≡ b
one_id a b None first second = absurd (true≢false (sym first))
one_id a b (Some context) first second =
    sym (same_id-eq (id_in context) a (and_parts (same_id (id_in context) a) (not (is_by_mode_in context)) first).0)
    ∙ same_id-eq (id_in context) b (and_parts (same_id (id_in context) b) (not (is_by_mode_in context)) second).0

itself : (kind : KeyKind) → same_kind kind kind ≡ true
itself Contents = refl
itself Names = refl

-- ---- the law

is_none : {X : Type 0} (o : Option X) → is_some o ≡ false → o ≡ None
is_none None none = refl
is_none (Some x) bad = absurd (true≢false bad)

abbrev option_users : Option ModeKey → ℕ
option_users o = option_map_or (λ mode. mode.users) o 0

used_in : (modes : Modes) → AreUsed modes → (kind : KeyKind) → IsUsed (of_kind modes kind)
used_in modes used Contents = used.contents_used
used_in modes used Names = used.names_used

module _ (disk : Disk) (ring : Holding) (cache : Cache) (modes : Modes) (live : HandleList) (rule : Forgets disk ring.claims cache modes live) (id : KeyId) where
  busy_with : (node : ℕ) → has_handle live node ≡ true → names_key_on_disk disk node id ≡ true → is_in_use disk live id ≡ true
  busy_with node held named = some_from (λ n. names_key_on_disk disk n id) live node held named

  -- a mode key with users is one that a handle needs
  mode_busy : (kind : KeyKind) → 1 ≤ users_in (of_kind modes kind) id → is_in_use disk live id ≡ true
  mode_busy kind some =
      let tied = rule.mode_keys.counted id kind in
      let one = one_on (uses_mode disk id kind) live (some_user (uses_mode disk id kind) live (omega arith)) in
      let shared = (and_parts (has_shared id (context_on_disk (get disk one.0))) (same_kind kind (kind_on_disk (get disk one.0))) one.1.1).0 in
      busy_with one.0 one.1.0 (shared_names id (context_on_disk (get disk one.0)) shared)

  pub users_busy : 0 < users_of modes id → is_in_use disk live id ≡ true
  users_busy some = elim (cases_lt 0 (users_in modes.contents id)) [
    | inl first ↦ mode_busy Contents first
    | inr none ↦ mode_busy Names (omega arith)
  ]

  -- a node with pins and a key of it is one with a handle
  pub inode_busy : 0 < inode_users cache id → is_in_use disk live id ≡ true
  inode_busy some =
      let one = cached_user cache id some in
      let pins = rule.pins.pinned one.0 in
      let key = one.1.1.0 in
      let named : names_key_on_disk disk one.0 key.id ≡ true = own_names key.id (context_on_disk (get disk one.0)) (rule.file_keys.named one.0 key one.1.1.1.0) in
      let pinned : 0 < pins_of cache one.0 = elim (cases_lt 0 (pins_of cache one.0)) [
        | inl more ↦ more
        | inr none ↦ absurd (true≢false (sym (eq-eqb (pins_of cache one.0) 0 (omega arith)) ∙ one.1.0))
      ] in
      busy_with one.0 (some_user (λ n. eqb n one.0) live (omega arith)) (ap (λ (k : KeyId). names_key_on_disk disk one.0 k) (sym one.1.1.1.1) ∙ named)

  -- if a handle needs the key, its node has pins and a key of it, or uses a mode key
  pub not_busy : inode_users cache id ≤ 0 → users_of modes id ≤ 0 → is_in_use disk live id ≡ false
  not_busy no_inodes no_modes = elim (cases_Bool (is_in_use disk live id)) [
    | inl busy ↦ let one = one_on (λ n. names_key_on_disk disk n id) live busy in absurd (needed one.0 one.1.0 one.1.1)
    | inr idle ↦ idle
  ]
    where
      mode_users : (kind : KeyKind) → users_in (of_kind modes kind) id ≤ users_of modes id
      mode_users Contents = omega arith
      mode_users Names = omega arith

      by_mode : (kind : KeyKind) (node : ℕ) → has_handle live node ≡ true → uses_mode disk id kind node ≡ true → ⊥
      by_mode kind node held uses =
          let some = users_from (uses_mode disk id kind) live (some_from (uses_mode disk id kind) live node held uses) in
          let tied = rule.mode_keys.counted id kind in
          let few = mode_users kind in
          omega arith

      by_own : (node : ℕ) → has_handle live node ≡ true → has_own id (context_on_disk (get disk node)) ≡ true → (o : Option NodeKey) → key_at cache node ≡ o → is_some o ≡ true → ⊥
      by_own node held own None is there = true≢false (sym there)
      by_own node held own (Some key) is there =
          let same : key.id ≡ id = one_id key.id id (context_on_disk (get disk node)) (rule.file_keys.named node key is) own in
          let handles = users_from (λ n. eqb n node) live held in
          let pins = rule.pins.pinned node in
          let pinned : is_unpinned cache node ≡ false = elim (cases_Bool (is_unpinned cache node)) [
            | inl free ↦ let none : pins_of cache node ≡ 0 = eqb-true (pins_of cache node) 0 free in absurd (omega arith)
            | inr pinned ↦ pinned
          ] in
          let one = one_user cache node key pinned is in
          let count : inode_users cache key.id ≡ inode_users cache id = ap (inode_users cache) same in
          omega arith

      needed : (node : ℕ) → has_handle live node ≡ true → names_key_on_disk disk node id ≡ true → ⊥
      needed node held named = elim (cases_Bool (has_shared id (context_on_disk (get disk node)))) [
        | inl shared ↦ by_mode (kind_on_disk (get disk node)) node held (λ i. shared i && itself (kind_on_disk (get disk node)) i)
        | inr not_shared ↦
            let own = own_or_shared id (context_on_disk (get disk node)) named not_shared in
            by_own node held own (key_at cache node) refl (rule.file_keys.kept node id own held)
      ]

  pub no_mode_key : AreUsed modes → is_in_use disk live id ≡ false → (kind : KeyKind) → mode_at modes id kind ≡ None
  no_mode_key used idle kind = by_case (mode_at modes id kind) refl
    where
      by_case : (o : Option ModeKey) → mode_at modes id kind ≡ o → o ≡ None
      by_case None is = refl
      by_case (Some mode) is =
          let some : 1 ≤ mode.users = used_in modes used kind id mode is in
          let count : users_in (of_kind modes kind) id ≡ mode.users = λ i. option_users (is i) in
          absurd (true≢false (sym (mode_busy kind (omega arith)) ∙ idle))

  -- a directory whose context names a key without a claim, and that no handle needs, isn't keyed
  not_keyed : is_present ring.claims id ≡ false → is_in_use disk live id ≡ false → (node : ℕ) → names_key_on_disk disk node id ≡ true → is_unlocked disk ring.claims live node ≡ false
  not_keyed absent idle node named = by_context (context_on_disk (get disk node)) refl
    where
      no_handle : has_handle live node ≡ false
      no_handle = elim (cases_Bool (has_handle live node)) [
        | inl held ↦ absurd (true≢false (sym (busy_with node held named) ∙ idle))
        | inr none ↦ none
      ]

      by_context : (o : Option (List ℕ)) → context_on_disk (get disk node) ≡ o → is_unlocked_under ring.claims live node o ≡ false
      by_context None is = absurd (true≢false (sym named ∙ ap (names_id id) is))
      by_context (Some context) is =
          let same : id_in context ≡ id = same_id-eq (id_in context) id (sym (ap (names_id id) is) ∙ named) in
          ap (λ (k : KeyId). is_present ring.claims k || has_handle live node) same
          ∙ (ap (λ b. b || has_handle live node) absent ∙ no_handle)

  pub nothing_held : (names : NameList) → NamesForget disk ring.claims names live → is_some (secret_of ring id) ≡ false → is_present ring.claims id ≡ false
      → is_in_use disk live id ≡ false → ((kind : KeyKind) → mode_at modes id kind ≡ None) → HoldsNothing disk ring cache modes names id
  nothing_held names remembers secret absent idle modeless = record {
    secret = is_none (secret_of ring id) secret;
    file_keys = λ node key there. elim (cases_Bool (same_id key.id id)) [
      | inl same ↦
          let is : key.id ≡ id = same_id-eq key.id id same in
          let named : uses_own disk node id ≡ true = subst (λ (k : KeyId). uses_own disk node k ≡ true) is (rule.file_keys.named node key there) in
          elim (or_cases (is_present ring.claims key.id) (has_handle live node) (rule.file_keys.forgotten node key there)) [
            | inl present ↦ absurd (true≢false (sym present ∙ (ap (is_present ring.claims) is ∙ absent)))
            | inr held ↦ absurd (true≢false (sym (busy_with node held (own_names id (context_on_disk (get disk node)) named)) ∙ idle))
          ]
      | inr other ↦ other
    ];
    mode_keys = modeless;
    plain_names = λ pair held. elim (cases_Bool (names_key_on_disk disk pair.0.dir id)) [
      | inl named ↦ absurd (true≢false (sym (remembers.keyed pair held) ∙ not_keyed absent idle pair.0.dir named))
      | inr other ↦ other
    ];
  }

  pub held_not_busy : (names : NameList) → HoldsNothing disk ring cache modes names id → is_in_use disk live id ≡ false
  held_not_busy names nothing = elim (cases_Bool (is_in_use disk live id)) [
    | inl busy ↦ let one = one_on (λ n. names_key_on_disk disk n id) live busy in absurd (needed one.0 one.1.0 one.1.1)
    | inr idle ↦ idle
  ]
    where
      by_mode : (kind : KeyKind) (node : ℕ) → has_handle live node ≡ true → uses_mode disk id kind node ≡ true → ⊥
      by_mode kind node held uses =
          let some = users_from (uses_mode disk id kind) live (some_from (uses_mode disk id kind) live node held uses) in
          let tied = rule.mode_keys.counted id kind in
          let none : users_in (of_kind modes kind) id ≡ 0 = λ i. option_users (nothing.mode_keys kind i) in
          omega arith

      by_own : (node : ℕ) → has_own id (context_on_disk (get disk node)) ≡ true → (o : Option NodeKey) → key_at cache node ≡ o → is_some o ≡ true → ⊥
      by_own node own None is there = true≢false (sym there)
      by_own node own (Some key) is there =
          let same : key.id ≡ id = one_id key.id id (context_on_disk (get disk node)) (rule.file_keys.named node key is) own in
          true≢false (sym (ap (λ (k : KeyId). same_id k id) same ∙ same_id-refl id) ∙ nothing.file_keys node key is)

      needed : (node : ℕ) → has_handle live node ≡ true → names_key_on_disk disk node id ≡ true → ⊥
      needed node held named = elim (cases_Bool (has_shared id (context_on_disk (get disk node)))) [
        | inl shared ↦ by_mode (kind_on_disk (get disk node)) node held (λ i. shared i && itself (kind_on_disk (get disk node)) i)
        | inr not_shared ↦
            let own = own_or_shared id (context_on_disk (get disk node)) named not_shared in
            by_own node own (key_at cache node) refl (rule.file_keys.kept node id own held)
      ]
