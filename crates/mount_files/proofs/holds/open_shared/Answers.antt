use Rattle.std.proofs.Common.{◌≤◌, None, refl, sym, ap, subst, ◌∙◌}
use Rattle.key_ring.specs.Modes.{Modes, of_kind}
use Rattle.key_ring.specs.ModeUsers.{users_in}
use Rattle.inode_refs.specs.CacheMaps.{Cache}
use Rattle.inode_refs.proofs.CacheLemmas.{at_ok}
use Rattle.mount_state.specs.Discipline.{Forgets}
use Rattle.mount_state.specs.Handles.{Handles}
use Rattle.mount_state.specs.Safe.{IsSafe}
use Rattle.mount_state.specs.CachedKeys.{RepresentsCaches}
use Rattle.mount_files.proofs.CachedRules.{names_opened}
use Rattle.mount_files.proofs.ModeCounts.{held, released, held_back, held_some}
use Rattle.mount_files.proofs.PinnedLemmas.{modes_fit, shared_opened, opened_with, safe_opened, shared_caches}
use Rattle.mount_files.proofs.holds.open_shared.Goals as goal

pub hold-requires-clause-fit : goal.hold-requires-clause-fit
hold-requires-clause-fit c =
    let s = c.args.state.now in
    modes_fit s.disk s.ring.claims s.inodes s.modes s.handles.live s.forgets c.args.id

pub invariant_of-state-in-Ok-1 : goal.invariant_of-state-in-Ok-1
invariant_of-state-in-Ok-1 c =
    let s = c.args.state.now in
    let hold = at_ok c.hold.result (sym c.is_err.ensures.value ∙ c.if-is_err.false) c.hold.ensures.held in
    record {
      forgets = subst (λ (x : Modes). Forgets s.disk s.ring.claims c.open_pinned.new.inodes x c.open_pinned.new.handles.live) (sym hold)
          (subst (λ (x : Cache). Forgets s.disk s.ring.claims x (held s.modes c.args.id c.args.kind c.args.key) c.open_pinned.new.handles.live) (sym c.in-Ok.ensures.pinned)
          (subst (λ (h : Handles). Forgets s.disk s.ring.claims (opened_with s.disk s.ring.claims s.next_node s.inodes s.handles c.args.caller c.args.node c.requires.room c.requires.there None) (held s.modes c.args.id c.args.kind c.args.key) h.live) (sym c.in-Ok.ensures.opened)
          (shared_opened s.disk s.ring.claims s.next_node s.inodes s.handles c.args.caller c.args.node c.requires.room c.requires.there s.modes s.forgets
          c.args.id c.args.kind c.args.key c.requires.need)));
      remembers = names_opened s.disk s.ring.claims s.names s.handles c.open_pinned.new.handles c.args.caller c.args.node s.remembers c.open_pinned.result
          c.open_pinned.ensures.opened c.open_pinned.ensures.handles;
      safe = subst (λ (h : Handles). IsSafe s.disk s.next_node h.live) (sym c.in-Ok.ensures.opened)
          (safe_opened s.disk s.ring.claims s.next_node s.inodes s.handles c.args.caller c.args.node c.requires.room c.requires.there s.safe);
    }

pub release-requires : goal.release-requires
release-requires c =
    let s = c.args.state.now in
    let hold = at_ok c.hold.result (sym c.is_err.ensures.value ∙ c.if-is_err.false) c.hold.ensures.held in
    subst (λ (x : Modes). 1 ≤ users_in (of_kind x c.args.kind) c.args.id) (sym hold) (held_some s.modes c.args.id c.args.kind c.args.key)

pub invariant_of-state-in-Err : goal.invariant_of-state-in-Err
invariant_of-state-in-Err c =
    let s = c.args.state.now in
    let hold = at_ok c.hold.result (sym c.is_err.ensures.value ∙ c.if-is_err.false) c.hold.ensures.held in
    let back = c.release.ensures ∙ ap (λ (x : Modes). released x c.args.id c.args.kind) hold
    ∙ held_back s.modes c.users_of-used.ensures.used c.args.id c.args.kind c.args.key in
    record {
      forgets = subst (λ (x : Modes). Forgets s.disk s.ring.claims c.open_pinned.new.inodes x c.open_pinned.new.handles.live) (sym back)
          (subst (λ (x : Cache). Forgets s.disk s.ring.claims x s.modes c.open_pinned.new.handles.live) (sym c.in-Err.ensures.inodes)
          (subst (λ (h : Handles). Forgets s.disk s.ring.claims s.inodes s.modes h.live) (sym c.in-Err.ensures.handles) s.forgets));
      remembers = names_opened s.disk s.ring.claims s.names s.handles c.open_pinned.new.handles c.args.caller c.args.node s.remembers c.open_pinned.result
          c.open_pinned.ensures.opened c.open_pinned.ensures.handles;
      safe = subst (λ (h : Handles). IsSafe s.disk s.next_node h.live) (sym c.in-Err.ensures.handles) s.safe;
    }

pub returns-in-Ok-clause-caches : goal.returns-in-Ok-clause-caches
returns-in-Ok-clause-caches c = λ m st fits.
    let s = c.args.state.now in
    shared_caches s.inodes s.modes m st.caches c.args.node c.args.id c.args.kind c.args.key fits c.open_pinned.new.inodes c.in-Ok.ensures.pinned
    c.hold.new.self (at_ok c.hold.result (sym c.is_err.ensures.value ∙ c.if-is_err.false) c.hold.ensures.held)

pub returns-in-Err-clause-kept : goal.returns-in-Err-clause-kept
returns-in-Err-clause-kept c =
    let s = c.args.state.now in
    let hold = at_ok c.hold.result (sym c.is_err.ensures.value ∙ c.if-is_err.false) c.hold.ensures.held in
    record {
      disk = refl;
      next_node = refl;
      ring = refl;
      meta = refl;
      keys = tt;
      pins = ap (λ (x : Cache). x.pins) c.in-Err.ensures.inodes;
      handles = c.in-Err.ensures.handles;
      modes = c.release.ensures ∙ ap (λ (x : Modes). released x c.args.id c.args.kind) hold
          ∙ held_back s.modes c.users_of-used.ensures.used c.args.id c.args.kind c.args.key;
      names = tt;
    }

pub returns-in-Err-clause-caches : goal.returns-in-Err-clause-caches
returns-in-Err-clause-caches c = λ m st fits.
    let s = c.args.state.now in
    let hold = at_ok c.hold.result (sym c.is_err.ensures.value ∙ c.if-is_err.false) c.hold.ensures.held in
    let back = c.release.ensures ∙ ap (λ (x : Modes). released x c.args.id c.args.kind) hold
    ∙ held_back s.modes c.users_of-used.ensures.used c.args.id c.args.kind c.args.key in
    subst (λ (x : Cache). RepresentsCaches x c.release.new.self m) (sym c.in-Err.ensures.inodes)
    (subst (λ (x : Modes). RepresentsCaches s.inodes x m) (sym back) st.caches)
