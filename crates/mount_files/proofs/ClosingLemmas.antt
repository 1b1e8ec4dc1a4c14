-- The steps of a close: what each leaves is what must be left.
use Rattle.std.proofs.Common.{◌≡◌, ℕ, ◌-◌, ◌<◌, ◌≤◌, Bool, true, false, cond, not, length, eqb, nat_lt, Option, Some, IfSome, inl, inr, refl, sym, ap, subst, ◌∙◌, arith}
use Rattle.std.proofs.lemmas.Bool.{cases_lt, lt-ltb, le-ltb, eq-eqb, ne_eqb}
use Rattle.policy_ctx.specs.declared.policy.KeyId.{KeyId}
use Rattle.fsc_keys.specs.declared.file_keys.KeyKind.{KeyKind}
use Rattle.user_claims.specs.Claims.{ClaimSet}
use Rattle.user_claims.specs.ClaimCounts.{is_present}
use Rattle.key_ring.specs.Holding.{Holding, HoldsClaimedSecrets}
use Rattle.key_ring.specs.Modes.{Modes, of_kind}
use Rattle.key_ring.specs.ModeUsers.{users_in, AreUsed}
use Rattle.inode_refs.specs.CacheMaps.{Cache, pins_of, with_pins}
use Rattle.inode_refs.specs.Evictions.{is_unpinned}
use Rattle.disk_tree.specs.DiskTree.{Disk}
use Rattle.mount_model.specs.PlainMount.{HandleList}
use Rattle.mount_model.specs.OpenHandles.{is_handle, node_of, has_handle}
use Rattle.mount_model.specs.declared.reply.KeyState.TheVariants.{Absent, Present, Incomplete}
use Rattle.mount_state.specs.Contexts.{uses_mode}
use Rattle.mount_state.specs.Discipline.{Forgets}
use Rattle.mount_state.specs.Handles.{Handles, without, handles_on, LosesOne}
use Rattle.mount_state.specs.KeyUse.{HoldsNothing, is_in_use, key_state}
use Rattle.mount_state.specs.Safe.{IsSafe}
use Rattle.mount_state.proofs.RuleLemmas.{nothing_held, no_mode_key}
use Rattle.mount_state.proofs.UserLemmas.{some_from, users_from, pins_tell}
use Rattle.dentry_cache.specs.Names.{NameList}
use Rattle.mount_state.specs.CachedNames.{NamesForget}
use Rattle.mount_files.specs.Closing.{disk_after_close, keys_after_close, modes_after_close, names_after_close}
use Rattle.mount_files.proofs.CachedRules.{closed_names, names_on}
use Rattle.mount_files.proofs.ClosedLemmas.{after, closed_rule, closed_is_safe}
use Rattle.mount_files.proofs.HandleCounts.{left_length, one_here, node_held, pins_here}

-- some pins, in two forms
some_pins : (n : ℕ) → not (eqb n 0) ≡ nat_lt 0 n
some_pins n = elim (cases_lt 0 n) [
  | inl some ↦ ap not (ne_eqb n 0 (λ none. omega arith)) ∙ sym (lt-ltb 0 n some)
  | inr none ↦ ap not (eq-eqb n 0 (omega arith)) ∙ sym (le-ltb 0 n none)
]

module _ (disk : Disk) (claims : ClaimSet) (cache : Cache) (modes : Modes) (handles left : Handles) (caller number node : ℕ)
    (rule : Forgets disk claims cache modes handles.live) (it : node_of handles.live caller number ≡ Some node)
    (gone : left ≡ without handles caller number) (one : IfSome (node_of handles.live caller number) (LosesOne handles.live left.live)) where
  pub lost : LosesOne handles.live left.live node
  lost = subst (λ (o : Option ℕ). IfSome o (LosesOne handles.live left.live)) it one

  fewer : length left.live ≤ length handles.live
  fewer = subst (λ (h : Handles). length h.live ≤ length handles.live) (sym gone) (left_length (λ h. not (is_handle caller number h)) handles.live)

  pub pins_due : 0 < pins_of cache node
  pins_due =
      let some = one_here handles.live left.live node lost in
      let pins = rule.pins.pinned node in
      omega arith

  pub in_use : (id : KeyId) (kind : KeyKind) → uses_mode disk id kind node ≡ true → 1 ≤ users_in (of_kind modes kind) id
  in_use id kind uses =
      let some = users_from (uses_mode disk id kind) handles.live
      (some_from (uses_mode disk id kind) handles.live node (node_held handles.live left.live node lost) uses) in
      let counted = rule.mode_keys.counted id kind in
      omega arith

  abbrev result : Cache
  result = after disk claims cache modes handles.live left.live rule node lost

  module _ (unpinned last : Cache) (is : unpinned ≡ record cache { pins = with_pins cache.pins node (pins_of cache node - 1) })
      (last_is : last ≡ record unpinned { keys = keys_after_close disk claims unpinned.keys (not (is_unpinned unpinned node)) node }) where
    held : not (is_unpinned unpinned node) ≡ has_handle left.live node
    held =
        let now : pins_of unpinned node ≡ pins_of cache node - 1 =
        ap (λ (c : Cache). pins_of c node) is ∙ pins_here cache.pins node (pins_of cache node - 1) in
        let others = one_here handles.live left.live node lost in
        let pins = rule.pins.pinned node in
        let count : pins_of unpinned node ≡ handles_on left.live node = omega arith in
        some_pins (pins_of unpinned node) ∙ pins_tell left.live node (pins_of unpinned node) count

    last_held : not (is_unpinned last node) ≡ has_handle left.live node
    last_held = ap (λ (c : Cache). not (is_unpinned c node)) last_is ∙ held

    pub cache_left : last ≡ after disk claims cache modes handles.live left.live rule node lost
    cache_left = last_is ∙ (λ i. record {
      keys = keys_after_close disk claims (ap (λ (c : Cache). c.keys) is i) (held i) node;
      pins = ap (λ (c : Cache). c.pins) is i;
    })

    pub keys_are : last.keys ≡ keys_after_close disk claims cache.keys (has_handle left.live node) node
    keys_are = ap (λ (c : Cache). c.keys) cache_left

    pub names_are : (names now : NameList) → now ≡ names_after_close disk claims names (not (is_unpinned last node)) node
        → now ≡ names_after_close disk claims names (has_handle left.live node) node
    names_are names now is = is ∙ ap (λ b. names_after_close disk claims names b node) last_held

    module _ (disk_now : Disk) (disk_is : disk_now ≡ disk_after_close disk (not (is_unpinned last node)) node) where
      pub disk_now_is : disk_now ≡ disk_after_close disk (has_handle left.live node) node
      disk_now_is = disk_is ∙ ap (λ b. disk_after_close disk b node) last_held

      pub rule_left : (modes_now : Modes) → modes_now ≡ modes_after_close disk modes node → Forgets disk_now claims last modes_now left.live
      rule_left modes_now modes_are =
          subst (λ (d : Disk). Forgets d claims last modes_now left.live) (sym disk_now_is)
          (subst (λ (c : Cache). Forgets (disk_after_close disk (has_handle left.live node) node) claims c modes_now left.live) (sym cache_left)
          (subst (λ (x : Modes). Forgets (disk_after_close disk (has_handle left.live node) node) claims result x left.live) (sym modes_are)
          (closed_rule disk claims cache modes handles.live left.live rule node lost fewer in_use)))

      pub names_forget : (names now : NameList) → NamesForget disk claims names handles.live → now ≡ names_after_close disk claims names (not (is_unpinned last node)) node
          → NamesForget disk_now claims now left.live
      names_forget names now remembers is =
          names_on _ disk_now claims _ now left.live disk_now_is (names_are names now is) (closed_names disk claims names handles.live left.live remembers node lost)

      pub safe_left : (next : ℕ) → IsSafe disk next handles.live → IsSafe disk_now next left.live
      safe_left next safe =
          subst (λ (d : Disk). IsSafe d next left.live) (sym disk_now_is)
          (closed_is_safe disk claims cache modes handles.live left.live rule node lost next safe)

-- ---- of a key that is absent nothing is held

absent_parts : (present busy : Bool) → cond present Present (cond busy Incomplete Absent) ≡ Absent → (present ≡ false) × (busy ≡ false)
absent_parts true busy is = absurd (cc)
absent_parts false true is = absurd (cc)
absent_parts false false is = (refl, refl)

pub absent_gone : (disk : Disk) (ring : Holding) (cache : Cache) (modes : Modes) (names : NameList) (live : HandleList) → Forgets disk ring.claims cache modes live
    → NamesForget disk ring.claims names live → HoldsClaimedSecrets ring → AreUsed modes
    → (id : KeyId) → key_state disk ring.claims live id ≡ Absent → HoldsNothing disk ring cache modes names id
absent_gone disk ring cache modes names live rule remembers exact used id is =
    let parts = absent_parts (is_present ring.claims id) (is_in_use disk live id) is in
    nothing_held disk ring cache modes live rule id names remembers (exact id ∙ parts.0) parts.0 parts.1
    (no_mode_key disk ring cache modes live rule id used parts.1)
