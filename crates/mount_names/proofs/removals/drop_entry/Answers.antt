use Rattle.std.proofs.Common.{◌≡◌, refl, ap, subst, ◌∙◌}
use Rattle.std.specs.Prelude.{IfSome}
use Rattle.number_map.specs.Numbered.{remove}
use Rattle.inode_refs.specs.CacheMaps.{Cache, pins_of}
use Rattle.disk_tree.specs.DiskTree.{children}
use Rattle.disk_tree.specs.EntryChanges.{without_entry_and_name}
use Rattle.disk_tree.specs.Entries.{number_under}
use Rattle.dentry_cache.specs.HeldNames.{HoldsNone}
use Rattle.mount_state.proofs.CachedLemmas.{forget_fewer}
use Rattle.mount_names.specs.Places.{Entry}
use Rattle.mount_names.proofs.CachedRules.{dropped_names, gone_names, names_on}
use Rattle.mount_names.proofs.CachedStands.{names_dropped, names_gone}
use Rattle.mount_names.proofs.RemovalLemmas.{held_told, free_told, drop_is, gone_is, kept_stands, gone_stands, dropped_keeps, dropped_is_safe, gone_keeps, gone_is_safe}
use Rattle.mount_names.proofs.removals.drop_entry.Goals as goal

pub invariant_of-state : goal.invariant_of-state
invariant_of-state c =
    let s = c.args.state.now in
    let e = c.args.entry.now in
    let left = drop_is s.disk c.drop_entry.new.self e e.stored refl c.requires.there (subst (λ (x : Entry). IfSome (number_under x.stored (children s.disk x.dir)) (λ n. c.drop_entry.new.self ≡ without_entry_and_name s.disk x.dir x.stored n)) c.entry.view_is c.drop_entry.ensures.gone) in
    record {
      forgets = dropped_keeps s e c.drop_entry.new.self left;
      remembers = names_on _ c.drop_entry.new.self s.ring.claims c.forget.new.self s.handles.live left
          (dropped_names s.disk s.ring.claims c.forget.new.self s.handles.live (forget_fewer s.disk s.ring.claims s.handles.live s.names c.forget.new.self s.remembers c.forget.ensures.no_more) e.dir e.stored e.number);
      safe = dropped_is_safe s e c.drop_entry.new.self left;
    }

pub returns-then-pins-gt0-clause-represents : goal.returns-then-pins-gt0-clause-represents
returns-then-pins-gt0-clause-represents c = λ m name st of by_part well.
    let s = c.args.state.now in
    let e = c.args.entry.now in
    let left = drop_is s.disk c.drop_entry.new.self e e.stored refl c.requires.there (subst (λ (x : Entry). IfSome (number_under x.stored (children s.disk x.dir)) (λ n. c.drop_entry.new.self ≡ without_entry_and_name s.disk x.dir x.stored n)) c.entry.view_is c.drop_entry.ensures.gone) in
    let held = held_told s e.number c.pins.result (c.pins.ensures ∙ ap (λ (x : Entry). pins_of s.inodes x.number) c.entry.view_is) c.if-pins-gt0.true in
    let none = subst (λ (x : Entry). HoldsNone c.forget.new.self x.dir c.args.part.now) c.entry.view_is c.forget.ensures.none in
    kept_stands s m st e name of _ (record { disk = tt; next_node = tt; ring = refl; meta = refl; keys = tt; pins = refl; handles = refl; modes = refl; names = tt }) refl well held left refl
    (names_dropped s m st e.dir name c.args.part.now by_part c.forget.new.self c.forget.ensures.no_more none e.number)

pub invariant_of-state-2 : goal.invariant_of-state-2
invariant_of-state-2 c =
    let s = c.args.state.now in
    let e = c.args.entry.now in
    let gone = gone_is s.disk c.remove_entry_and_node.new.self e e.stored refl c.requires.there (subst (λ (x : Entry). IfSome (number_under x.stored (children s.disk x.dir)) (λ n. c.remove_entry_and_node.new.self ≡ remove (without_entry_and_name s.disk x.dir x.stored n) n)) c.entry.view_is c.remove_entry_and_node.ensures.gone) in
    let free = free_told s e.number c.pins.result (c.pins.ensures ∙ ap (λ (x : Entry). pins_of s.inodes x.number) c.entry.view_is) c.if-pins-gt0.false in
    let left = without_entry_and_name s.disk e.dir e.stored e.number in
    record {
      forgets = gone_keeps s e left refl free c.remove_entry_and_node.new.self c.drop_key.new.self gone (c.drop_key.ensures ∙ ap (λ (x : Entry). let fewer : Cache = record s.inodes { keys = remove s.inodes.keys x.number } in fewer) c.entry.view_is);
      remembers = names_on _ c.remove_entry_and_node.new.self s.ring.claims c.forget.new.self s.handles.live gone
          (gone_names left s.ring.claims c.forget.new.self s.handles.live
          (dropped_names s.disk s.ring.claims c.forget.new.self s.handles.live (forget_fewer s.disk s.ring.claims s.handles.live s.names c.forget.new.self s.remembers c.forget.ensures.no_more) e.dir e.stored e.number) e.number (λ pair held. c.requires.none pair (c.forget.ensures.no_more pair held)));
      safe = gone_is_safe s e left refl free c.remove_entry_and_node.new.self gone;
    }

pub returns-clause-represents : goal.returns-clause-represents
returns-clause-represents c = λ m name st of by_part well.
    let s = c.args.state.now in
    let e = c.args.entry.now in
    let gone = gone_is s.disk c.remove_entry_and_node.new.self e e.stored refl c.requires.there (subst (λ (x : Entry). IfSome (number_under x.stored (children s.disk x.dir)) (λ n. c.remove_entry_and_node.new.self ≡ remove (without_entry_and_name s.disk x.dir x.stored n) n)) c.entry.view_is c.remove_entry_and_node.ensures.gone) in
    let free = free_told s e.number c.pins.result (c.pins.ensures ∙ ap (λ (x : Entry). pins_of s.inodes x.number) c.entry.view_is) c.if-pins-gt0.false in
    let none = subst (λ (x : Entry). HoldsNone c.forget.new.self x.dir c.args.part.now) c.entry.view_is c.forget.ensures.none in
    gone_stands s m st e name of _ (record { disk = tt; next_node = tt; ring = refl; meta = refl; keys = tt; pins = ap (λ (k : Cache). k.pins) c.drop_key.ensures; handles = refl; modes = refl; names = tt }) refl well free
    gone (c.drop_key.ensures ∙ ap (λ (x : Entry). let fewer : Cache = record s.inodes { keys = remove s.inodes.keys x.number } in fewer) c.entry.view_is)
    (names_gone s m st e.dir name c.args.part.now by_part c.forget.new.self c.forget.ensures.no_more none e.number (λ pair held. c.requires.none pair (c.forget.ensures.no_more pair held)))
