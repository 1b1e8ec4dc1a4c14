-- A handle that is opened with what it needs, or not opened: what must be forgotten stays so.
use Rattle.std.proofs.Common.{◌≡◌, ℕ, ◌+◌, ◌-◌, ◌<◌, ◌≤◌, ◌^◌, Bool, true, false, cond, [], ◌∷◌, length, eqb, nat_le, unwrap_or, Option, Some, None, IfSome, is_some, inl, inr, Result, Ok, Err, OnOk, OnErr, sym, ap, subst, ◌∙◌, arith}
use Rattle.std.proofs.lemmas.Bool.{or_parts, leb-false}
use Rattle.std.proofs.lemmas.List.Sums.{sum_by-cons}
use Rattle.policy_ctx.specs.declared.policy.KeyId.{KeyId}
use Rattle.policy_ctx.specs.declared.policy.Context.{Context}
use Rattle.fsc_keys.specs.Keys.{mode_key_of}
use Rattle.fsc_keys.specs.declared.file_keys.FileKey.{FileKey}
use Rattle.fsc_keys.specs.declared.file_keys.KeyKind.{KeyKind}
use Rattle.fsc_keys.specs.declared.file_keys.KeyKind.TheVariants.{Contents, Names}
use Rattle.number_map.specs.Numbered.{get, remove}
use Rattle.user_claims.specs.Claims.{ClaimSet}
use Rattle.key_ring.specs.Modes.{Modes}
use Rattle.key_ring.specs.ModeUsers.{users_of}
use Rattle.inode_refs.specs.CacheMaps.{Cache, PinMap, key_at, pins_of, with_pins, with_pinned_key}
use Rattle.inode_refs.specs.declared.node_key.NodeKey.{NodeKey}
use Rattle.inode_refs.proofs.CacheLemmas.{given_cached, taken_back, no_key}
use Rattle.plain_tree.specs.NodesByNumber.{context_at}
use Rattle.disk_tree.specs.DiskTree.{Disk}
use Rattle.mount_model.specs.declared.handle.Handle.{Handle}
use Rattle.mount_model.specs.declared.limits.TheConstants.{MAX_HANDLES, MAX_OPENS}
use Rattle.mount_model.specs.PlainMount.{PlainMount, HandleList, raw_in}
use Rattle.mount_model.specs.OpenHandles.{opens_of}
use Rattle.mount_model.specs.Sealed.{node_key}
use Rattle.mount_state.specs.Contexts.{uses_mode}
use Rattle.mount_state.specs.Discipline.{Forgets}
use Rattle.mount_state.specs.Handles.{Handles, is_full, users, with_handle}
use Rattle.mount_state.specs.Safe.{IsSafe}
use Rattle.mount_state.specs.CachedKeys.{RepresentsCaches, plain_kind}
use Rattle.mount_files.specs.Needs.{IsOwnNeed, IsSharedNeed}
use Rattle.mount_files.proofs.HandleCounts.{one_if, pins_here}
use Rattle.mount_files.proofs.ModeCounts.{held, each_held}
use Rattle.mount_files.proofs.OpenedLemmas.{given_was, opened_own, opened_shared, opened_safe}

-- ---- counts fit

pub users_few : (test : ℕ → Bool) (live : HandleList) → users test live ≤ length live
users_few test [] = omega arith
users_few test (h ∷ live) =
    let rest = users_few test live in
    let whole = sum_by-cons (λ (g : Handle). one_if (test g.node)) h live in
    let one : one_if (test h.node) ≤ 1 = elim (test h.node) as (λ b. one_if b ≤ 1) [ true ↦ omega arith | false ↦ omega arith ] in
    omega arith

module _ (disk : Disk) (claims : ClaimSet) (cache : Cache) (modes : Modes) (live : HandleList) (rule : Forgets disk claims cache modes live) where
  pub pins_fit : (node : ℕ) → pins_of cache node + 1 < 2 ^ 32
  pins_fit node =
      let pins = rule.pins.pinned node in
      let few = rule.pins.few in
      let some = users_few (λ n. eqb n node) live in
      omega arith

  pub modes_fit : (id : KeyId) → users_of modes id + 1 < 2 ^ 32
  modes_fit id =
      let contents = rule.mode_keys.counted id Contents in
      let names = rule.mode_keys.counted id Names in
      let few = rule.pins.few in
      let first = users_few (uses_mode disk id Contents) live in
      let second = users_few (uses_mode disk id Names) live in
      omega arith

pub room_left : (handles : Handles) (caller : ℕ) → is_full handles caller ≡ false → length handles.live < MAX_HANDLES
room_left handles caller room = leb-false MAX_HANDLES (length handles.live) (or_parts (nat_le MAX_HANDLES (length handles.live)) (nat_le MAX_OPENS (opens_of handles.opened caller)) room).0

-- ---- a pin that is removed again, with the key that was added with it

pub unpinned : (cache : Cache) (node : ℕ) (key : Option NodeKey) (cached : Bool) → cached ≡ is_some (key_at cache node) → (after : Cache)
    → after ≡ record { keys = with_pinned_key cache.keys node key; pins = with_pins cache.pins node (pins_of cache node + 1) }
    → with_pins after.pins node (pins_of cache node) ≡ cache.pins
    → record { keys = cond cached after.keys (remove after.keys node); pins = with_pins after.pins node (pins_of after node - 1) } ≡ cache
unpinned cache node key cached is after after_is back = λ i. record { keys = keys_same i; pins = pins_same i }
  where
    by_case : (b : Bool) → b ≡ is_some (key_at cache node) → cond b (with_pinned_key cache.keys node key) (remove (with_pinned_key cache.keys node key) node) ≡ cache.keys
    by_case true there = given_cached cache.keys node key (sym there)
    by_case false none = taken_back cache.keys node key (no_key (key_at cache node) (sym none))

    keys_same : cond cached after.keys (remove after.keys node) ≡ cache.keys
    keys_same = ap (λ (c : Cache). cond cached c.keys (remove c.keys node)) after_is ∙ by_case cached is

    one : pins_of after node - 1 ≡ pins_of cache node
    one =
        let more : pins_of after node ≡ pins_of cache node + 1 = ap (λ (c : Cache). pins_of c node) after_is ∙ pins_here cache.pins node (pins_of cache node + 1) in
        omega arith

    pins_same : with_pins after.pins node (pins_of after node - 1) ≡ cache.pins
    pins_same = ap (with_pins after.pins node) one ∙ back

-- ---- the rule, whether the handle was opened or not

module _ (disk : Disk) (claims : ClaimSet) (next : ℕ) (cache : Cache) (handles : Handles) (caller node : ℕ) (room : is_full handles caller ≡ false)
    (there : is_some (get disk node) ≡ true) where
  abbrev new : Handle
  new = record { caller = caller; number = opens_of handles.opened caller; node = node }

  abbrev pub opened_with : Option NodeKey → Cache
  opened_with key = record { keys = with_pinned_key cache.keys node key; pins = with_pins cache.pins node (pins_of cache node + 1) }

  own_opened : (modes : Modes) → Forgets disk claims cache modes handles.live → (key : Option NodeKey) → IsOwnNeed disk cache node key
      → Forgets disk claims (opened_with key) modes (with_handle handles caller node).live
  own_opened modes rule key need =
      opened_own disk claims cache modes handles.live rule (record { caller = caller; number = opens_of handles.opened caller; node = node }) key (room_left handles caller room)
      need.fits need.cached need.unshared

  pub safe_opened : IsSafe disk next handles.live → IsSafe disk next (with_handle handles caller node).live
  safe_opened safe =
      opened_safe disk next handles.live (record { caller = caller; number = opens_of handles.opened caller; node = node }) safe there

  module _ {T E : Type 0} (after : Cache) (left : Handles) where
    pub own_rule : (modes : Modes) → Forgets disk claims cache modes handles.live → (key : Option NodeKey) → IsOwnNeed disk cache node key
        → (r : Result T E) → OnOk r (after ≡ opened_with key) → OnOk r (left ≡ with_handle handles caller node)
        → OnErr r (after ≡ cache) → OnErr r (left ≡ handles) → Forgets disk claims after modes left.live
    own_rule modes rule key need (Ok x) pinned opened kept same =
        subst (λ (c : Cache). Forgets disk claims c modes left.live) (sym pinned)
        (subst (λ (h : Handles). Forgets disk claims (opened_with key) modes h.live) (sym opened) (own_opened modes rule key need))
    own_rule modes rule key need (Err e) pinned opened kept same =
        subst (λ (c : Cache). Forgets disk claims c modes left.live) (sym kept)
        (subst (λ (h : Handles). Forgets disk claims cache modes h.live) (sym same) rule)

    pub own_safe : IsSafe disk next handles.live → (r : Result T E) → OnOk r (left ≡ with_handle handles caller node) → OnErr r (left ≡ handles)
        → IsSafe disk next left.live
    own_safe safe (Ok x) opened same =
        subst (λ (h : Handles). IsSafe disk next h.live) (sym opened) (safe_opened safe)
    own_safe safe (Err e) opened same = subst (λ (h : Handles). IsSafe disk next h.live) (sym same) safe

  pub shared_opened : (modes : Modes) → Forgets disk claims cache modes handles.live → (id : KeyId) (kind : KeyKind) (key : FileKey) → IsSharedNeed disk node id kind key
      → Forgets disk claims (opened_with None) (held modes id kind key) (with_handle handles caller node).live
  shared_opened modes rule id kind key need =
      opened_shared disk claims cache modes handles.live rule (record { caller = caller; number = opens_of handles.opened caller; node = node }) id kind key
      (room_left handles caller room) need.none need.uses need.fits

-- ---- cached keys stay those of the mount's nodes

module _ (cache : Cache) (modes : Modes) (m : PlainMount) (stand : RepresentsCaches cache modes m) (node : ℕ) where
  more_caches : (key : Option NodeKey) → IfSome key (λ k. (c : Context) → context_at m.nodes node ≡ Some c → k.key ≡ node_key m.raws c (plain_kind (get m.nodes node)))
      → (pins : PinMap) → RepresentsCaches (record { keys = with_pinned_key cache.keys node key; pins = pins }) modes m
  more_caches key fresh pins = record {
    file_keys = λ q k c there under. elim (given_was cache.keys node (λ x. (d : Context) → context_at m.nodes node ≡ Some d → x.key ≡ node_key m.raws d (plain_kind (get m.nodes node))) key fresh q k there) [
      | inl old ↦ stand.file_keys q k c old under
      | inr new ↦
          new.1 c (ap (context_at m.nodes) (sym new.0) ∙ under)
          ∙ ap (λ n. node_key m.raws c (plain_kind (get m.nodes n))) (sym new.0)
    ];
    mode_keys = stand.mode_keys;
  }

  pub own_caches : {T E : Type 0} (key : Option NodeKey)
      → IfSome key (λ k. (c : Context) → context_at m.nodes node ≡ Some c → k.key ≡ node_key m.raws c (plain_kind (get m.nodes node)))
      → (r : Result T E) (after : Cache)
      → OnOk r (after ≡ record { keys = with_pinned_key cache.keys node key; pins = with_pins cache.pins node (pins_of cache node + 1) }) → OnErr r (after ≡ cache)
      → RepresentsCaches after modes m
  own_caches key fresh (Ok x) after pinned kept =
      subst (λ (c : Cache). RepresentsCaches c modes m) (sym pinned) (more_caches key fresh (with_pins cache.pins node (pins_of cache node + 1)))
  own_caches key fresh (Err e) after pinned kept = subst (λ (c : Cache). RepresentsCaches c modes m) (sym kept) stand

  pub shared_caches : (id : KeyId) (kind : KeyKind) (key : FileKey) → key ≡ mode_key_of (unwrap_or (raw_in m.raws id) []) kind
      → (after : Cache) → after ≡ record { keys = with_pinned_key cache.keys node None; pins = with_pins cache.pins node (pins_of cache node + 1) }
      → (now : Modes) → now ≡ held modes id kind key → RepresentsCaches after now m
  shared_caches id kind key fits after pinned now are =
      subst (λ (c : Cache). RepresentsCaches c now m) (sym pinned) (subst (λ (x : Modes). RepresentsCaches (record { keys = cache.keys; pins = with_pins cache.pins node (pins_of cache node + 1) }) x m) (sym are)
      (record {
        file_keys = stand.file_keys;
        mode_keys = each_held (λ i k x. x ≡ mode_key_of (unwrap_or (raw_in m.raws i) []) k) modes stand.mode_keys id kind key fits;
      }))
