-- The rule of what must be forgotten holds after a handle is opened.
use Rattle.std.proofs.Common.{◌≡◌, ℕ, ◌+◌, ◌<◌, Bool, true, false, cond, length, eqb, Option, Some, None, IfSome, is_some, is_none, inl, inr, ◌⊎◌, refl, sym, ap, subst, ◌∙◌, arith}
use Rattle.std.proofs.lemmas.Bool.{cases_eq, or_cases, or_left, or_right, eq-eqb, eqb-true, ne_eqb, true≢false}
use Rattle.policy_ctx.specs.declared.policy.KeyId.{KeyId}
use Rattle.fsc_keys.specs.declared.file_keys.KeyKind.{KeyKind}
use Rattle.fsc_keys.specs.declared.file_keys.FileKey.{FileKey}
use Rattle.number_map.specs.Numbered.{get, insert}
use Rattle.number_map.proofs.NumberedLemmas.{insert_here, insert_other}
use Rattle.user_claims.specs.Claims.{ClaimSet}
use Rattle.user_claims.specs.ClaimCounts.{is_present}
use Rattle.key_ring.specs.Modes.{Modes}
use Rattle.inode_refs.specs.CacheMaps.{Cache, KeyMap, pins_of, with_pins, with_pinned_key}
use Rattle.inode_refs.specs.declared.node_key.NodeKey.{NodeKey}
use Rattle.disk_tree.specs.DiskTree.{Disk}
use Rattle.mount_model.specs.declared.handle.Handle.{Handle}
use Rattle.mount_model.specs.declared.limits.TheConstants.{MAX_HANDLES}
use Rattle.mount_model.specs.PlainMount.{HandleList}
use Rattle.mount_model.specs.OpenHandles.{has_handle}
use Rattle.mount_state.specs.Contexts.{uses_own, uses_mode}
use Rattle.mount_state.specs.StoredKinds.{kind_on_disk, is_of_kind}
use Rattle.mount_state.specs.Discipline.{Forgets, FileKeysForget, ModeKeysForget, PinsAreHandles}
use Rattle.mount_state.specs.Handles.{users, handles_on}
use Rattle.mount_state.specs.Safe.{IsSafe}
use Rattle.mount_files.proofs.HandleCounts.{one_if, more, users_more, held_more, length_more, pins_here, pins_other}
use Rattle.mount_files.proofs.ModeCounts.{held, is_it, users_held, each_held}

-- ---- the key that comes with a pin

some_same : (a b : NodeKey) → Some a ≡ Some b → a ≡ b
some_same a b is = cc

module _ (keys : KeyMap) (node : ℕ) where
  given_new : (k : NodeKey) (b : Bool) → is_none (get keys node) ≡ b → (q : ℕ) (found : NodeKey)
      → get (cond b (insert keys node k) keys) q ≡ Some found → (get keys q ≡ Some found) ⊎ ((q ≡ node) × (k ≡ found))
  given_new k false old q found is = inl is
  given_new k true none q found is = elim (cases_eq q node) [
    | inl here ↦ inr (here, some_same k found (sym (insert_here keys node k) ∙ ap (get (insert keys node k)) (sym here) ∙ is))
    | inr differ ↦ inl (sym (insert_other keys node k q differ) ∙ is)
  ]

  -- a key that is cached was cached before, or is the one that was added
  pub given_was : (P : NodeKey → Type 0) (key : Option NodeKey) → IfSome key P → (q : ℕ) (found : NodeKey)
      → get (with_pinned_key keys node key) q ≡ Some found → (get keys q ≡ Some found) ⊎ ((q ≡ node) × P found)
  given_was P None fresh q found is = inl is
  given_was P (Some k) fresh q found is = elim (given_new k (is_none (get keys node)) refl q found is) [
    | inl old ↦ inl old
    | inr new ↦ inr (new.0, subst P new.1 fresh)
  ]

  still : (k : NodeKey) (b : Bool) → (q : ℕ) → is_some (get keys q) ≡ true → is_some (get (cond b (insert keys node k) keys) q) ≡ true
  still k false q there = there
  still k true q there = elim (cases_eq q node) [
    | inl here ↦ ap (λ o. is_some o) (ap (get (insert keys node k)) here ∙ insert_here keys node k)
    | inr differ ↦ ap (λ o. is_some o) (insert_other keys node k q differ) ∙ there
  ]

  given_still : (key : Option NodeKey) (q : ℕ) → is_some (get keys q) ≡ true → is_some (get (with_pinned_key keys node key) q) ≡ true
  given_still None q there = there
  given_still (Some k) q there = still k (is_none (get keys node)) q there

-- ---- the rule

module _ (disk : Disk) (claims : ClaimSet) (cache : Cache) (modes : Modes) (live : HandleList) (rule : Forgets disk claims cache modes live)
    (h : Handle) where
  -- it is a key of the handle's node
  abbrev pub IsForNode : NodeKey → Type 0
  IsForNode k = (uses_own disk h.node k.id ≡ true) × (is_of_kind (kind_on_disk (get disk h.node)) k.key ≡ true)

  -- the node has its key with this one, if it has one of its own
  abbrev pub IsKeyed : Option NodeKey → Type 0
  IsKeyed key = (id : KeyId) → uses_own disk h.node id ≡ true → is_some (get (with_pinned_key cache.keys h.node key) h.node) ≡ true

  -- the cache with a pin more, and the key that comes with it
  abbrev pub pinned : Option NodeKey → Cache
  pinned key = record { keys = with_pinned_key cache.keys h.node key; pins = with_pins cache.pins h.node (pins_of cache h.node + 1) }

  pins_opened : (key : Option NodeKey) → length live < MAX_HANDLES → PinsAreHandles (pinned key) (more live h)
  pins_opened key room = record {
    pinned = λ q. elim (cases_eq q h.node) [
      | inl same ↦
          let now : pins_of (pinned key) q ≡ pins_of cache h.node + 1 =
          ap (pins_of (pinned key)) same ∙ pins_here cache.pins h.node (pins_of cache h.node + 1) in
          let counted : handles_on (more live h) q ≡ handles_on live q + 1 =
          users_more live h (λ n. eqb n q) ∙ ap (λ b. handles_on live q + one_if b) (eq-eqb h.node q (sym same)) in
          let before : handles_on live q ≡ pins_of cache h.node = ap (handles_on live) same ∙ sym (rule.pins.pinned h.node) in
          omega arith
      | inr differ ↦
          let now : pins_of (pinned key) q ≡ pins_of cache q = pins_other cache.pins h.node (pins_of cache h.node + 1) q differ in
          let counted : handles_on (more live h) q ≡ handles_on live q + 0 =
          users_more live h (λ n. eqb n q) ∙ ap (λ b. handles_on live q + one_if b) (ne_eqb h.node q (λ e. differ (sym e))) in
          let before = rule.pins.pinned q in
          omega arith
    ];
    few = let longer = length_more live h in omega arith;
  }

  -- a node with a handle has one still
  still_held : (q : ℕ) → has_handle live q ≡ true → has_handle (more live h) q ≡ true
  still_held q is = held_more live h q ∙ or_left (has_handle live q) (eqb h.node q) is

  files_opened : (key : Option NodeKey) → IfSome key IsForNode → IsKeyed key → FileKeysForget disk claims (pinned key) (more live h)
  files_opened key fresh keyed = record {
    named = λ q k is. elim (given_was cache.keys h.node IsForNode key fresh q k is) [
      | inl old ↦ rule.file_keys.named q k old
      | inr new ↦ ap (λ n. uses_own disk n k.id) new.0 ∙ new.1.0
    ];
    kind = λ q k is. elim (given_was cache.keys h.node IsForNode key fresh q k is) [
      | inl old ↦ rule.file_keys.kind q k old
      | inr new ↦ ap (λ n. is_of_kind (kind_on_disk (get disk n)) k.key) new.0 ∙ new.1.1
    ];
    kept = λ q id own is. elim (or_cases (has_handle live q) (eqb h.node q) (sym (held_more live h q) ∙ is)) [
      | inl old ↦ given_still cache.keys h.node key q (rule.file_keys.kept q id own old)
      | inr new ↦
          let here : h.node ≡ q = eqb-true h.node q new in
          ap (λ n. is_some (get (with_pinned_key cache.keys h.node key) n)) (sym here) ∙ keyed id (ap (λ n. uses_own disk n id) here ∙ own)
    ];
    forgotten = λ q k is. elim (given_was cache.keys h.node IsForNode key fresh q k is) [
      | inl old ↦ elim (or_cases (is_present claims k.id) (has_handle live q) (rule.file_keys.forgotten q k old)) [
        | inl present ↦ or_left (is_present claims k.id) (has_handle (more live h) q) present
        | inr on ↦ or_right (is_present claims k.id) (has_handle (more live h) q) (still_held q on)
      ]
      | inr new ↦
          or_right (is_present claims k.id) (has_handle (more live h) q)
          (held_more live h q ∙ or_right (has_handle live q) (eqb h.node q) (eq-eqb h.node q (sym new.0)))
    ];
  }

  -- the node uses no mode key
  modes_stay : ((id : KeyId) (kind : KeyKind) → uses_mode disk id kind h.node ≡ false) → ModeKeysForget disk modes (more live h)
  modes_stay none = record {
    counted = λ id kind.
        let before = rule.mode_keys.counted id kind in
        let after : users (uses_mode disk id kind) (more live h) ≡ users (uses_mode disk id kind) live + 0 =
        users_more live h (uses_mode disk id kind) ∙ ap (λ b. users (uses_mode disk id kind) live + one_if b) (none id kind) in
        omega arith;
    kind = rule.mode_keys.kind;
  }

  -- the node uses this one
  modes_held : (id : KeyId) (kind : KeyKind) (key : FileKey) → ((q : KeyId) (k : KeyKind) → uses_mode disk q k h.node ≡ is_it id kind q k)
      → is_of_kind kind key ≡ true → ModeKeysForget disk (held modes id kind key) (more live h)
  modes_held id kind key uses fits = record {
    counted = λ q k.
        let before = rule.mode_keys.counted q k in
        let now = users_held modes id kind key q k in
        let after : users (uses_mode disk q k) (more live h) ≡ users (uses_mode disk q k) live + one_if (is_it id kind q k) =
        users_more live h (uses_mode disk q k) ∙ ap (λ b. users (uses_mode disk q k) live + one_if b) (uses q k) in
        omega arith;
    kind = λ q k mode there. each_held (λ i x y. is_of_kind x y ≡ true) modes rule.mode_keys.kind id kind key fits q k mode there;
  }

  pub opened_own : (key : Option NodeKey) → length live < MAX_HANDLES → IfSome key IsForNode → IsKeyed key
      → ((id : KeyId) (kind : KeyKind) → uses_mode disk id kind h.node ≡ false) → Forgets disk claims (pinned key) modes (more live h)
  opened_own key room fresh keyed none = record {
    file_keys = files_opened key fresh keyed;
    mode_keys = modes_stay none;
    pins = pins_opened key room;
  }

  pub opened_shared : (id : KeyId) (kind : KeyKind) (key : FileKey) → length live < MAX_HANDLES
      → ((q : KeyId) → uses_own disk h.node q ≡ false) → ((q : KeyId) (k : KeyKind) → uses_mode disk q k h.node ≡ is_it id kind q k)
      → is_of_kind kind key ≡ true → Forgets disk claims (pinned None) (held modes id kind key) (more live h)
  opened_shared id kind key room none uses fits = record {
    file_keys = files_opened None tt (λ q own. absurd (true≢false (sym own ∙ none q)));
    mode_keys = modes_held id kind key uses fits;
    pins = pins_opened None room;
  }

pub opened_safe : (disk : Disk) (next : ℕ) (live : HandleList) (h : Handle) → IsSafe disk next live → is_some (get disk h.node) ≡ true → IsSafe disk next (more live h)
opened_safe disk next live h safe there = record {
  below = safe.below;
  there = λ q is. elim (or_cases (has_handle live q) (eqb h.node q) (sym (held_more live h q) ∙ is)) [
    | inl old ↦ safe.there q old
    | inr new ↦ ap (λ n. is_some (get disk n)) (sym (eqb-true h.node q new)) ∙ there
  ];
}
