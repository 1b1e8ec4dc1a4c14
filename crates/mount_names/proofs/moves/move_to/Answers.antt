use Rattle.std.proofs.Common.{◌≡◌, refl, inl, sym, subst}
use Rattle.std.specs.Prelude.{IfSome}
use Rattle.disk_tree.specs.DiskTree.{children}
use Rattle.disk_tree.specs.EntryChanges.{with_moved_entry}
use Rattle.disk_tree.specs.Entries.{number_under}
use Rattle.dentry_cache.specs.HeldNames.{HoldsNone}
use Rattle.mount_state.proofs.CachedLemmas.{forget_fewer}
use Rattle.mount_names.specs.FoundEntries.{IsEntryOn}
use Rattle.mount_names.specs.Places.{Entry, Place}
use Rattle.mount_names.proofs.MoveLemmas.{move_seen, moved_keeps, moved_forgets, moved_is_safe, moved_stands}
use Rattle.mount_names.proofs.CachedStands.{names_moved}
use Rattle.mount_names.proofs.ReadLemmas.{dir_read}
use Rattle.mount_names.proofs.moves.move_to.Goals as goal

pub invariant_of-state : goal.invariant_of-state
invariant_of-state c =
    let s = c.args.state.now in
    let e : Entry = record { dir = c.entry.inside.dir; stored = c.entry.inside.stored.now; number = c.entry.inside.number } in
    let p : Place = record { dir = c.place.inside.dir; context = c.place.inside.context; stored = c.place.inside.stored.now } in
    let there = subst (IsEntryOn s.disk) (sym c.entry.view_is) c.requires.there in
    record {
      forgets = moved_keeps s e p c.move_entry.new.self e.stored p.stored refl refl there
          c.move_entry.result c.move_entry.ensures.moved c.move_entry.ensures.kept;
      remembers = moved_forgets s e p c.move_entry.new.self e.stored p.stored refl refl there c.forget.new.self
          (forget_fewer s.disk s.ring.claims s.handles.live s.names c.forget.new.self s.remembers c.forget.ensures.no_more)
          c.move_entry.result c.move_entry.ensures.moved c.move_entry.ensures.kept;
      safe = moved_is_safe s e p c.move_entry.new.self e.stored p.stored refl refl there
          c.move_entry.result c.move_entry.ensures.moved c.move_entry.ensures.kept;
    }

pub returns-in-Ok-clause-represents : goal.returns-in-Ok-clause-represents
returns-in-Ok-clause-represents c = λ m name new_name st of by_part at well.
    let s = c.args.state.now in
    let e = c.args.entry.now in
    let p = c.args.place.now in
    let left = c.move_entry.new.self in
    let from = subst (λ (x : Entry). IfSome (number_under x.stored (children s.disk x.dir)) (λ n. left ≡ with_moved_entry s.disk x.dir x.stored c.place.inside.dir c.place.inside.stored.now n)) c.entry.view_is c.in-Ok.ensures.moved in
    let there = subst (λ (y : Place). IfSome (number_under e.stored (children s.disk e.dir)) (λ n. left ≡ with_moved_entry s.disk e.dir e.stored y.dir y.stored n)) c.place.view_is from in
    let is = move_seen s.disk left e p e.stored p.stored refl refl c.requires.there there in
    let none = subst (λ (x : Entry). HoldsNone c.forget.new.self x.dir c.args.part.now) c.entry.view_is c.forget.ensures.none in
    let names = names_moved s m st e.dir name c.args.part.now by_part c.forget.new.self c.forget.ensures.no_more none p.dir new_name e.number
    (dir_read s.disk s.next_node m st.tree p.dir c.requires.dir) at.free in
    inl (refl, moved_stands s m st e name of p new_name at _ (record { disk = tt; next_node = tt; ring = refl; meta = refl; keys = tt; pins = refl; handles = refl; modes = refl; names = tt }) refl is refl names well)
