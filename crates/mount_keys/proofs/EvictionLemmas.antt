-- What an eviction leaves of the cached keys, and that what must be forgotten still is.
use Rattle.std.proofs.Common.{◌≡◌, ℕ, ◌≤◌, Bool, true, false, cond, not, ◌&&◌, ◌||◌, nat_lt, Option, Some}
use Rattle.std.proofs.Common.{None, is_some, Result, Ok, Err, OnOk, OnErr, inl, inr, refl, sym, ap, subst}
use Rattle.std.proofs.Common.{◌∙◌, arith}
use Rattle.std.specs.Option.{option_map_or}
use Rattle.std.specs.FinMap as map
use Rattle.std.specs.FinMap.{nat_cmp-IsAntisymmetric, get-retain_keys, same_map}
use Rattle.std.specs.Cmp.{nat_cmp_total}
use Rattle.std.proofs.lemmas.Bool.{cases_Bool, or_cases, or_left, or_right, true≢false, ne_eqb, eq-eqb}
use Rattle.std.proofs.lemmas.Bool.{ltb-false, not_from_false}
use Rattle.policy_ctx.specs.declared.policy.KeyId.{KeyId}
use Rattle.policy_ctx.specs.KeyIds.{same_id}
use Rattle.policy_ctx.proofs.KeyIdLemmas.{same_id-eq, same_id-symm}
use Rattle.user_claims.specs.Claims.{ClaimSet, with_claim}
use Rattle.user_claims.specs.ClaimCounts.{is_present}
use Rattle.user_claims.proofs.PresentLemmas.{is_present-with_claim}
use Rattle.key_ring.specs.Holding.{Holding}
use Rattle.key_ring.specs.Modes.{Modes}
use Rattle.inode_refs.specs.CacheMaps.{Cache, KeyMap, key_at, pins_at, pins_of}
use Rattle.inode_refs.specs.Evictions.{is_unpinned, has_id, without_derived_keys, without_unpinned_keys}
use Rattle.inode_refs.specs.declared.node_key.NodeKey.{NodeKey}
use Rattle.disk_tree.specs.DiskTree.{Disk}
use Rattle.mount_model.specs.PlainMount.{HandleList}
use Rattle.mount_model.specs.OpenHandles.{has_handle}
use Rattle.number_map.specs.Numbered.{get}
use Rattle.dentry_cache.specs.Names.{NameList}
use Rattle.mount_state.specs.CachedNames.{NamesForget}
use Rattle.mount_state.specs.Contexts.{context_on_disk}
use Rattle.mount_state.specs.Discipline.{Forgets}
use Rattle.mount_state.proofs.CachedLemmas.{forget_when, keyed_more}
use Rattle.mount_state.proofs.UserLemmas.{pins_tell}

-- ---- what is left of a map

picked : {X : Type 0} (b : Bool) (o : Option X) (x : X) → cond b o None ≡ Some x → (b ≡ true) × (o ≡ Some x)
picked true o x is = (refl, is)
picked false o x is = let none : None ≡ Some x = is in absurd (cc)

retained_at : (keys : KeyMap) (test : ℕ → Bool) (n : ℕ) → map.get (map.retain_keys keys test) n
    ≡ cond (test n) (map.get keys n) None
retained_at keys test n =
    get-retain_keys keys test n (λ x tie. ap test (sym (nat_cmp-IsAntisymmetric n x tie)))

retained_was : (keys : KeyMap) (test : ℕ → Bool) (n : ℕ) (k : NodeKey)
    → map.get (map.retain_keys keys test) n ≡ Some k → (test n ≡ true) × (map.get keys n ≡ Some k)
retained_was keys test n k there = picked (test n) (map.get keys n) k (sym (retained_at keys test n) ∙ there)

pub evicted_was : (cache : Cache) (id : KeyId) (n : ℕ) (k : NodeKey) → map.get (without_derived_keys cache id) n ≡ Some k
    → key_at cache n ≡ Some k
evicted_was cache id n k there =
    (retained_was cache.keys (λ node. not (is_unpinned cache node && has_id cache id node)) n k there).1

pub all_evicted_was : (cache : Cache) (n : ℕ) (k : NodeKey) → map.get (without_unpinned_keys cache) n ≡ Some k
    → key_at cache n ≡ Some k
all_evicted_was cache n k there =
    (retained_was cache.keys (λ node. not (is_unpinned cache node)) n k there).1

-- ---- the rule

unflagged : (u h : Bool) → not (u && h) ≡ true → u ≡ true → h ≡ false
unflagged true true is there = absurd (true≢false (sym is))
unflagged true false is there = refl
unflagged false h is there = absurd (true≢false (sym there))

module _ (disk : Disk) (claims : ClaimSet) (cache : Cache) (modes : Modes) (live : HandleList)
    (rule : Forgets disk claims cache modes live) where
  held_pinned : (n : ℕ) → has_handle live n ≡ true → is_unpinned cache n ≡ false
  held_pinned n held = ne_eqb (pins_of cache n) 0
      (λ none. true≢false (sym held ∙ (sym (pins_tell live n (pins_of cache n) (rule.pins.pinned n))
      ∙ ap (nat_lt 0) none)))

  free_unpinned : (n : ℕ) → has_handle live n ≡ false → is_unpinned cache n ≡ true
  free_unpinned n free =
      let none : pins_of cache n ≤ 0 =
      ltb-false 0 (pins_of cache n) (pins_tell live n (pins_of cache n) (rule.pins.pinned n) ∙ free) in
      eq-eqb (pins_of cache n) 0 (omega arith)

  -- fewer keys, those of nodes with handles among them, and other claims
  fewer_rule : (after : ClaimSet) (left : Cache) → left.pins ≡ cache.pins
      → ((n : ℕ) (k : NodeKey) → key_at left n ≡ Some k → key_at cache n ≡ Some k)
      → ((n : ℕ) → has_handle live n ≡ true → key_at left n ≡ key_at cache n)
      → ((n : ℕ) (k : NodeKey) → key_at left n ≡ Some k → (is_present after k.id || has_handle live n)
      ≡ true)
      → Forgets disk after left modes live
  fewer_rule after left pins was pinned forgotten = record {
    file_keys = record {
      named = λ n k there. rule.file_keys.named n k (was n k there);
      kind = λ n k there. rule.file_keys.kind n k (was n k there);
      kept = λ n id own held. ap is_some (pinned n held) ∙ rule.file_keys.kept n id own held;
      forgotten = forgotten;
    };
    mode_keys = rule.mode_keys;
    pins = record { pinned = λ n. ap (λ p. pins_at p n) pins ∙ rule.pins.pinned n; few = rule.pins.few };
  }

  -- all keys were removed from the nodes without handles
  pub all_evicted_rule : (left : Cache) → left ≡ record cache { keys = without_unpinned_keys cache }
      → Forgets disk claims left modes live
  all_evicted_rule left is = subst (λ (c : Cache). Forgets disk claims c modes live) (sym is)
      (fewer_rule claims (record cache { keys = without_unpinned_keys cache }) refl (all_evicted_was cache)
      (λ n held. retained_at cache.keys (λ node. not (is_unpinned cache node)) n
      ∙ ap (λ b. cond (not b) (key_at cache n) None) (held_pinned n held))
      (λ n k there. rule.file_keys.forgotten n k (all_evicted_was cache n k there)))

  -- the user has a claim more
  pub claimed_rule : (id : KeyId) (uid : ℕ) (after : ClaimSet) → after ≡ with_claim claims id uid
      → Forgets disk after cache modes live
  claimed_rule id uid after is = subst (λ (cs : ClaimSet). Forgets disk cs cache modes live) (sym is)
      (fewer_rule (with_claim claims id uid) cache refl (λ n k there. there) (λ n held. refl) (λ n k there.
      ap (λ b. b || has_handle live n) (is_present-with_claim claims id uid k.id)
      ∙ elim (or_cases (is_present claims k.id) (has_handle live n) (rule.file_keys.forgotten n k there)) [
        | inl present ↦ or_left (is_present claims k.id || same_id id k.id) (has_handle live n)
            (or_left (is_present claims k.id) (same_id id k.id) present)
        | inr held ↦ or_right (is_present claims k.id || same_id id k.id) (has_handle live n) held
      ]))

  -- claims on this key alone were removed
  module _ (id : KeyId) (after : ClaimSet) (others : (q : KeyId) → same_id id q ≡ false → is_present after q
      ≡ is_present claims q) where
    other_forgotten : (n : ℕ) (k : NodeKey) → key_at cache n ≡ Some k → same_id id k.id ≡ false
        → (is_present after k.id || has_handle live n) ≡ true
    other_forgotten n k there apart =
        ap (λ b. b || has_handle live n) (others k.id apart) ∙ rule.file_keys.forgotten n k there

    -- and some are left
    pub left_rule : is_present after id ≡ true → Forgets disk after cache modes live
    left_rule some =
        fewer_rule after cache refl (λ n k there. there) (λ n held. refl)
        (λ n k there. elim (cases_Bool (same_id id k.id)) [
          | inl same ↦ or_left (is_present after k.id) (has_handle live n)
              (ap (is_present after) (sym (same_id-eq id k.id same)) ∙ some)
          | inr apart ↦ other_forgotten n k there apart
        ])

    -- a key that is left without a handle is derived from another one
    evicted_other : (n : ℕ) (k : NodeKey) → map.get (without_derived_keys cache id) n ≡ Some k → has_handle live n ≡ false
        → same_id id k.id ≡ false
    evicted_other n k there free =
        let was = retained_was cache.keys (λ node. not (is_unpinned cache node && has_id cache id node)) n k
        there in
        let other : has_id cache id n ≡ false =
        unflagged (is_unpinned cache n) (has_id cache id n) was.0 (free_unpinned n free) in
        same_id-symm id k.id ∙ (sym (ap (λ o. option_map_or (λ key. same_id key.id id) o false) was.1)
        ∙ other)

    -- and its keys were removed from the nodes without handles
    pub evicted_rule : (left : Cache) → left ≡ record cache { keys = without_derived_keys cache id }
        → Forgets disk after left modes live
    evicted_rule left is = subst (λ (c : Cache). Forgets disk after c modes live) (sym is)
        (fewer_rule after (record cache { keys = without_derived_keys cache id }) refl (evicted_was cache id)
        (λ n held. retained_at cache.keys (λ node. not (is_unpinned cache node && has_id cache id node)) n
        ∙ ap (λ b. cond (not (b && has_id cache id n)) (key_at cache n) None) (held_pinned n held))
        (λ n k there. elim (cases_Bool (has_handle live n)) [
          | inl held ↦ or_right (is_present after k.id) (has_handle live n) held
          | inr free ↦ other_forgotten n k (evicted_was cache id n k there) (evicted_other n k there free)
        ]))

  -- ---- a key without a claim

  module _ (id : KeyId) (absent : is_present claims id ≡ false) where
    stays : (n : ℕ) (o : Option NodeKey) → key_at cache n ≡ o
        → not (is_unpinned cache n && has_id cache id n) ≡ false → o ≡ None
    stays n None is goes = refl
    stays n (Some k) is goes = elim (cases_Bool (same_id k.id id)) [
      | inl same ↦
          let gone : is_present claims k.id ≡ false =
          ap (is_present claims) (same_id-eq k.id id same) ∙ absent in
          let held : has_handle live n ≡ true =
          sym (ap (λ b. b || has_handle live n) gone) ∙ rule.file_keys.forgotten n k is in
          absurd (true≢false (sym (ap (λ b. not (b && has_id cache id n)) (held_pinned n held)) ∙ goes))
      | inr apart ↦
          let other : has_id cache id n ≡ false =
          ap (λ o. option_map_or (λ key. same_id key.id id) o false) is ∙ apart in
          absurd (true≢false (sym (kept (is_unpinned cache n) (has_id cache id n) other) ∙ goes))
    ]
      where
        kept : (u h : Bool) → h ≡ false → not (u && h) ≡ true
        kept true h is = not_from_false h is
        kept false h is = refl

    -- has nothing that an eviction would take
    pub evicted_absent : without_derived_keys cache id ≡ cache.keys
    evicted_absent = same_map nat_cmp_total nat_cmp-IsAntisymmetric _ _ (λ n.
        retained_at cache.keys (λ node. not (is_unpinned cache node && has_id cache id node)) n
        ∙ at n (not (is_unpinned cache n && has_id cache id n)) refl)
      where
        at : (n : ℕ) (b : Bool) → not (is_unpinned cache n && has_id cache id n) ≡ b
            → cond b (key_at cache n) None ≡ key_at cache n
        at n true is = refl
        at n false is = sym (stays n (key_at cache n) refl is)

-- ---- a key is added, or not

pub added_rule : {T E : Type 0} (disk : Disk) (old new : Holding) (cache : Cache) (modes : Modes)
    (live : HandleList) → Forgets disk old.claims cache modes live
    → (r : Result T E) (id : KeyId) (uid : ℕ) → OnOk r (new.claims ≡ with_claim old.claims id uid)
    → OnErr r (new ≡ old) → Forgets disk new.claims cache modes live
added_rule disk old new cache modes live rule (Ok x) id uid ok err =
    claimed_rule disk old.claims cache modes live rule id uid new.claims ok
added_rule disk old new cache modes live rule (Err e) id uid ok err =
    subst (λ (ring : Holding). Forgets disk ring.claims cache modes live) (sym err) rule

-- ---- names

module _ (disk : Disk) (claims : ClaimSet) (names : NameList) (live : HandleList)
    (rule : NamesForget disk claims names live) where
  -- with more claims each directory that was keyed is so still
  pub more_names : (after : ClaimSet) → ((q : KeyId) → is_present claims q ≡ true → is_present after q ≡ true)
      → NamesForget disk after names live
  more_names after more = forget_when disk disk claims after live live names rule (λ pair held dir keyed. (
    dir,
    keyed_more claims after live live pair.0.dir more (λ handle. handle)
        (context_on_disk (get disk pair.0.dir)) keyed,
  ))

  -- so it is if claims on one key alone were removed, and some are left
  pub left_names : (id : KeyId) (after : ClaimSet)
      → ((q : KeyId) → same_id id q ≡ false → is_present after q ≡ is_present claims q)
      → is_present after id ≡ true → NamesForget disk after names live
  left_names id after others some = more_names after (λ q there. elim (cases_Bool (same_id id q)) [
    | inl same ↦ ap (is_present after) (sym (same_id-eq id q same)) ∙ some
    | inr apart ↦ others q apart ∙ there
  ])

pub added_names : {T E : Type 0} (disk : Disk) (old new : Holding) (names : NameList) (live : HandleList)
    → NamesForget disk old.claims names live → (r : Result T E) (id : KeyId) (uid : ℕ)
    → OnOk r (new.claims ≡ with_claim old.claims id uid) → OnErr r (new ≡ old)
    → NamesForget disk new.claims names live
added_names disk old new names live rule (Ok x) id uid ok err =
    more_names disk old.claims names live rule new.claims (λ q there.
    ap (λ (cs : ClaimSet). is_present cs q) ok
    ∙ (is_present-with_claim old.claims id uid q ∙ or_left (is_present old.claims q) (same_id id q) there))
added_names disk old new names live rule (Err e) id uid ok err =
    subst (λ (ring : Holding). NamesForget disk ring.claims names live) (sym err) rule
