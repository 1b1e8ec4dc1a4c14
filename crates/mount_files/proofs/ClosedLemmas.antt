-- The rule of what must be forgotten holds after a handle is closed.
use Rattle.std.proofs.Common.{◌≡◌, ◌≢◌, ℕ, ◌+◌, ◌-◌, ◌≤◌, Bool, true, false, cond, not, ◌&&◌, ◌||◌, List, [], ◌∷◌, length, eqb, Option, Some, None, is_some, inl, inr, refl, sym, ap, ◌∙◌, arith}
use Rattle.std.proofs.lemmas.Bool.{cases_eq, or_cases, or_left, or_right, and_parts, eq-eqb, true≢false}
use Rattle.std.proofs.lemmas.List.Sums.{sum_by-cons}
use Rattle.policy_ctx.specs.declared.policy.KeyId.{KeyId}
use Rattle.policy_ctx.specs.KeyIds.{same_id}
use Rattle.policy_ctx.specs.Context.{id_in, is_by_mode_in}
use Rattle.policy_ctx.proofs.KeyIdLemmas.{same_id-eq}
use Rattle.fsc_keys.specs.declared.file_keys.KeyKind.{KeyKind}
use Rattle.number_map.specs.Numbered.{get, remove}
use Rattle.number_map.proofs.NumberedLemmas.{remove_here, remove_other}
use Rattle.user_claims.specs.Claims.{ClaimSet}
use Rattle.user_claims.specs.ClaimCounts.{is_present}
use Rattle.key_ring.specs.Modes.{Modes, of_kind}
use Rattle.key_ring.specs.ModeUsers.{users_in}
use Rattle.inode_refs.specs.CacheMaps.{Cache, KeyMap, key_at, pins_of, with_pins}
use Rattle.inode_refs.specs.declared.node_key.NodeKey.{NodeKey}
use Rattle.disk_tree.specs.DiskTree.{Disk}
use Rattle.mount_model.specs.declared.handle.Handle.{Handle}
use Rattle.mount_model.specs.PlainMount.{HandleList}
use Rattle.mount_model.specs.OpenHandles.{has_handle}
use Rattle.mount_state.specs.Contexts.{context_on_disk, has_own, has_shared, uses_own, uses_mode}
use Rattle.mount_state.specs.StoredKinds.{kind_on_disk, same_kind, is_of_kind}
use Rattle.mount_state.specs.Discipline.{Forgets, FileKeysForget, ModeKeysForget, PinsAreHandles}
use Rattle.mount_state.specs.Handles.{users, handles_on, LosesOne}
use Rattle.mount_state.specs.Safe.{IsSafe}
use Rattle.mount_files.specs.Closing.{is_lasting, is_key_needed, disk_after_close, keys_after_close, modes_after_close, modes_left_by}
use Rattle.mount_files.proofs.HandleCounts.{one_if, same_others, one_here, held_others, was_held, pins_here, pins_other}
use Rattle.mount_files.proofs.ContextUses.{none_unshared, own_unshared, shared_uses}
use Rattle.mount_files.proofs.ModeCounts.{itself, released, is_it, users_released, each_released}

-- ---- users of nodes that have handles

abbrev counts_one : (ℕ → Bool) → Handle → ℕ
counts_one test h = cond (test h.node) 1 0

users_alike : (p q : ℕ → Bool) (live : HandleList) → ((n : ℕ) → has_handle live n ≡ true → p n ≡ q n) → users p live ≡ users q live
users_alike p q [] same = refl
users_alike p q (h ∷ hs) same =
    let first = sum_by-cons (counts_one p) h hs in
    let second = sum_by-cons (counts_one q) h hs in
    let one : counts_one p h ≡ counts_one q h = ap (λ b. cond b 1 0) (same h.node (ap (λ b. b || has_handle hs h.node) (eq-eqb h.node h.node refl))) in
    let rest : users p hs ≡ users q hs = users_alike p q hs (λ n held. same n (or_right (eqb h.node n) (has_handle hs n) held)) in
    omega arith

-- ---- which keys are left

module _ (keys : KeyMap) (node : ℕ) where
  -- a key that is left was there before, and if it is the node's, the node's stayed
  pub left_was : (b : Bool) (q : ℕ) (k : NodeKey) → get (cond b keys (remove keys node)) q ≡ Some k → (get keys q ≡ Some k) × (q ≡ node → b ≡ true)
  left_was true q k is = (is, λ _. refl)
  left_was false q k is = elim (cases_eq q node) [
    | inl here ↦ let none : None ≡ Some k = sym (remove_here keys node) ∙ ap (get (remove keys node)) (sym here) ∙ is in absurd (cc)
    | inr differ ↦ (sym (remove_other keys node q differ) ∙ is, λ here. absurd (differ here))
  ]

  -- keys of other nodes stay
  left_other : (b : Bool) (q : ℕ) → (q ≢ node) → get (cond b keys (remove keys node)) q ≡ get keys q
  left_other true q differ = refl
  left_other false q differ = remove_other keys node q differ

  gone_here : (b : Bool) → b ≡ false → get (cond b keys (remove keys node)) node ≡ None
  gone_here true bad = absurd (true≢false bad)
  gone_here false is = remove_here keys node

-- ---- the rule once the handle is closed

module _ (disk : Disk) (claims : ClaimSet) (cache : Cache) (modes : Modes) (live left : HandleList) (rule : Forgets disk claims cache modes live)
    (node : ℕ) (lost : LosesOne live left node) where
  abbrev on : Bool
  on = has_handle left node

  abbrev stays : Bool
  stays = on || (is_lasting disk node && is_key_needed claims (context_on_disk (get disk node)))

  -- the cache with one pin less, and what is left of the keys
  abbrev pub after : Cache
  after = record { keys = keys_after_close disk claims cache.keys (has_handle left node) node; pins = with_pins cache.pins node (pins_of cache node - 1) }

  pins_closed : length left ≤ length live → PinsAreHandles after left
  pins_closed fewer = record {
    pinned = λ q. elim (cases_eq q node) [
      | inl same ↦
          let now : pins_of after q ≡ pins_of cache node - 1 = ap (pins_of after) same ∙ pins_here cache.pins node (pins_of cache node - 1) in
          let one = one_here live left node lost in
          let before = rule.pins.pinned node in
          let counted : handles_on left q ≡ handles_on left node = ap (handles_on left) same in
          omega arith
      | inr differ ↦
          pins_other cache.pins node (pins_of cache node - 1) q differ ∙ rule.pins.pinned q ∙ sym (same_others live left node lost q differ)
    ];
    few = let few = rule.pins.few in omega arith;
  }

  -- the key that the node's context names is the one that its file key was derived from
  due : (id : KeyId) (o : Option (List ℕ)) → has_own id o ≡ true → is_key_needed claims o ≡ true → is_present claims id ≡ true
  due id None own is = absurd (true≢false (sym own))
  due id (Some context) own is =
      ap (is_present claims) (sym (same_id-eq (id_in context) id (and_parts (same_id (id_in context) id) (not (is_by_mode_in context)) own).0)) ∙ is

  files_closed : FileKeysForget disk claims after left
  files_closed = record {
    named = λ q k is. rule.file_keys.named q k (left_was cache.keys node stays q k is).0;
    kind = λ q k is. rule.file_keys.kind q k (left_was cache.keys node stays q k is).0;
    kept = λ q id own held. elim (cases_eq q node) [
      | inl same ↦
          let here : on ≡ true = ap (has_handle left) (sym same) ∙ held in
          let all : keys_after_close disk claims cache.keys on node ≡ cache.keys =
          ap (λ b. cond (b || (is_lasting disk node && is_key_needed claims (context_on_disk (get disk node)))) cache.keys (remove cache.keys node)) here in
          ap (λ (m : KeyMap). is_some (get m q)) all ∙ rule.file_keys.kept q id own (was_held live left node lost q held)
      | inr differ ↦
          ap (λ o. is_some o) (left_other cache.keys node stays q differ) ∙ rule.file_keys.kept q id own (was_held live left node lost q held)
    ];
    forgotten = λ q k is.
        let was = left_was cache.keys node stays q k is in
        elim (cases_eq q node) [
          | inl same ↦ elim (or_cases on (is_lasting disk node && is_key_needed claims (context_on_disk (get disk node))) (was.1 same)) [
            | inl held ↦ or_right (is_present claims k.id) (has_handle left q) (ap (has_handle left) same ∙ held)
            | inr both ↦
                or_left (is_present claims k.id) (has_handle left q)
                (due k.id (context_on_disk (get disk node)) (ap (λ n. uses_own disk n k.id) (sym same) ∙ rule.file_keys.named q k was.0)
                (and_parts (is_lasting disk node) (is_key_needed claims (context_on_disk (get disk node))) both).1)
          ]
          | inr differ ↦
              ap (λ b. is_present claims k.id || b) (held_others live left node lost q differ) ∙ rule.file_keys.forgotten q k was.0
        ];
  }

  -- ---- mode keys

  -- the node uses none
  modes_stay : ((id : KeyId) (kind : KeyKind) → uses_mode disk id kind node ≡ false) → ModeKeysForget disk modes left
  modes_stay none = record {
    counted = λ id kind.
        let before = rule.mode_keys.counted id kind in
        let whole : users (uses_mode disk id kind) left + one_if (uses_mode disk id kind node) ≡ users (uses_mode disk id kind) live = lost (uses_mode disk id kind) in
        let gone : one_if (uses_mode disk id kind node) ≡ 0 = ap one_if (none id kind) in
        omega arith;
    kind = rule.mode_keys.kind;
  }

  modes_less : (id : KeyId) (kind : KeyKind) → ((q : KeyId) (k : KeyKind) → uses_mode disk q k node ≡ is_it id kind q k)
      → 1 ≤ users_in (of_kind modes kind) id → ModeKeysForget disk (released modes id kind) left
  modes_less id kind uses some = record {
    counted = λ q k.
        let before = rule.mode_keys.counted q k in
        let now = users_released modes id kind some q k in
        let whole : users (uses_mode disk q k) left + one_if (uses_mode disk q k node) ≡ users (uses_mode disk q k) live = lost (uses_mode disk q k) in
        let gone : one_if (uses_mode disk q k node) ≡ one_if (is_it id kind q k) = ap one_if (uses q k) in
        omega arith;
    kind = λ q k mode there. each_released (λ i x y. is_of_kind x y ≡ true) modes rule.mode_keys.kind id kind q k mode there;
  }

  at_context : (o : Option (List ℕ)) → context_on_disk (get disk node) ≡ o → ((id : KeyId) (kind : KeyKind) → uses_mode disk id kind node ≡ true → 1 ≤ users_in (of_kind modes kind) id)
      → ModeKeysForget disk (modes_left_by modes (kind_on_disk (get disk node)) o) left
  at_context None is some = modes_stay (none_unshared disk node is)
  at_context (Some context) is some = by_flag (is_by_mode_in context) refl
    where
      by_flag : (b : Bool) → is_by_mode_in context ≡ b → ModeKeysForget disk (cond b (released modes (id_in context) (kind_on_disk (get disk node))) modes) left
      by_flag false own = modes_stay (own_unshared disk node context is own)
      by_flag true shared =
          let uses = shared_uses disk node context is shared in
          modes_less (id_in context) (kind_on_disk (get disk node)) uses
          (some (id_in context) (kind_on_disk (get disk node)) (uses (id_in context) (kind_on_disk (get disk node)) ∙ itself (id_in context) (kind_on_disk (get disk node))))

  closed : length left ≤ length live → ((id : KeyId) (kind : KeyKind) → uses_mode disk id kind node ≡ true → 1 ≤ users_in (of_kind modes kind) id)
      → Forgets disk claims after (modes_after_close disk modes node) left
  closed fewer some = record {
    file_keys = files_closed;
    mode_keys = at_context (context_on_disk (get disk node)) refl some;
    pins = pins_closed fewer;
  }

  closed_safe : (next : ℕ) → IsSafe disk next live → IsSafe disk next left
  closed_safe next safe = record { below = safe.below; there = λ q held. safe.there q (was_held live left node lost q held) }

-- ---- and once the node is gone

module _ (live : HandleList) (node : ℕ) (free : has_handle live node ≡ false) where
  elsewhere : (q : ℕ) → has_handle live q ≡ true → (q ≢ node)
  elsewhere q held same = true≢false (sym held ∙ ap (has_handle live) same ∙ free)

  gone : (disk : Disk) (claims : ClaimSet) (cache : Cache) (modes : Modes) → Forgets disk claims cache modes live
      → key_at cache node ≡ None → Forgets (remove disk node) claims cache modes live
  gone disk claims cache modes rule keyless = record {
    file_keys = record {
      named = λ q k is. ap (λ o. has_own k.id (context_on_disk o)) (remove_other disk node q (keyed q k is)) ∙ rule.file_keys.named q k is;
      kind = λ q k is. ap (λ o. is_of_kind (kind_on_disk o) k.key) (remove_other disk node q (keyed q k is)) ∙ rule.file_keys.kind q k is;
      kept = λ q id own held. rule.file_keys.kept q id (sym (ap (λ o. has_own id (context_on_disk o)) (remove_other disk node q (elsewhere q held))) ∙ own) held;
      forgotten = rule.file_keys.forgotten;
    };
    mode_keys = record {
      counted = λ id kind. rule.mode_keys.counted id kind
          ∙ users_alike (uses_mode disk id kind) (uses_mode (remove disk node) id kind) live
          (λ q held. sym (ap (λ o. has_shared id (context_on_disk o) && same_kind kind (kind_on_disk o)) (remove_other disk node q (elsewhere q held))));
      kind = rule.mode_keys.kind;
    };
    pins = rule.pins;
  }
    where
      keyed : (q : ℕ) (k : NodeKey) → key_at cache q ≡ Some k → (q ≢ node)
      keyed q k is same = let bad : None ≡ Some k = sym keyless ∙ ap (key_at cache) (sym same) ∙ is in absurd (cc)

  gone_safe : (disk : Disk) (next : ℕ) → IsSafe disk next live → IsSafe (remove disk node) next live
  gone_safe disk next safe = record {
    below = λ q is. elim (cases_eq q node) [
      | inl same ↦ absurd (true≢false (sym is ∙ ap (λ o. is_some o) (ap (get (remove disk node)) same ∙ remove_here disk node)))
      | inr differ ↦ safe.below q (sym (ap (λ o. is_some o) (remove_other disk node q differ)) ∙ is)
    ];
    there = λ q held. ap (λ o. is_some o) (remove_other disk node q (elsewhere q held)) ∙ safe.there q held;
  }

-- ---- the whole

module _ (disk : Disk) (claims : ClaimSet) (cache : Cache) (modes : Modes) (live left : HandleList) (rule : Forgets disk claims cache modes live)
    (node : ℕ) (lost : LosesOne live left node) where
  pub closed_rule : length left ≤ length live → ((id : KeyId) (kind : KeyKind) → uses_mode disk id kind node ≡ true → 1 ≤ users_in (of_kind modes kind) id)
      → Forgets (disk_after_close disk (has_handle left node) node) claims (after disk claims cache modes live left rule node lost) (modes_after_close disk modes node) left
  closed_rule fewer some = by_case (has_handle left node) (is_lasting disk node) refl refl
    where
      first : Forgets disk claims (after disk claims cache modes live left rule node lost) (modes_after_close disk modes node) left
      first = closed disk claims cache modes live left rule node lost fewer some

      by_case : (held lasting : Bool) → has_handle left node ≡ held → is_lasting disk node ≡ lasting
          → Forgets (cond (held || lasting) disk (remove disk node)) claims (after disk claims cache modes live left rule node lost) (modes_after_close disk modes node) left
      by_case true lasting held is = first
      by_case false true free is = first
      by_case false false free is =
          gone left node free disk claims (after disk claims cache modes live left rule node lost) (modes_after_close disk modes node) first
          (gone_here cache.keys node _ (λ i. free i || (is i && is_key_needed claims (context_on_disk (get disk node)))))

  pub closed_is_safe : (next : ℕ) → IsSafe disk next live → IsSafe (disk_after_close disk (has_handle left node) node) next left
  closed_is_safe next safe = by_case (has_handle left node) (is_lasting disk node) refl
    where
      first : IsSafe disk next left
      first = closed_safe disk claims cache modes live left rule node lost next safe

      by_case : (held lasting : Bool) → has_handle left node ≡ held → IsSafe (cond (held || lasting) disk (remove disk node)) next left
      by_case true lasting held = first
      by_case false true free = first
      by_case false false free =
          gone_safe left node free disk next first
