use Rattle.std.proofs.Common.{◌≡◌, false, length, Option, Some, sym, ap, subst, ◌∙◌}
use Rattle.std.proofs.lemmas.Bool.{false≢true}
use Rattle.disk_tree.specs.DiskTree.{of_node, entries_in}
use Rattle.disk_tree.specs.Nodes.{IsDir}
use Rattle.disk_tree.specs.declared.node.StoredNode.{StoredNode}
use Rattle.mount_model.specs.declared.reply.Refusal.TheVariants.{Inval, NotDir, NotEmpty}
use Rattle.mount_model.specs.UnlinkAnswers.{without_name, answer_to_rmdir}
use Rattle.number_map.specs.Numbered.{get}
use Rattle.mount_names.specs.Places.{Entry}
use Rattle.dentry_cache.specs.HeldNames.{HoldsNoneIn}
use Rattle.mount_model.specs.EntryPaths.{is_root}
use Rattle.mount_model.specs.Walk.{visible_entry as led_by}
use Rattle.mount_state.proofs.CachedLemmas.{stand_fewer}
use Rattle.mount_names.proofs.CachedStands.{found_by}
use Rattle.mount_names.proofs.FoundLemmas.{end_at, end_is}
use Rattle.mount_names.proofs.RemovalLemmas.{unlinked_dir, rmdir_no_dir, rmdir_full, rmdir_done, refused_given, done_given, well_of, is_dir_there, no_dir_there, as_many_there}
use Rattle.mount_names.proofs.removals.remove_dir.Goals as goal

pub returns-then-not-is_dir-clause-represents : goal.returns-then-not-is_dir-clause-represents
returns-then-not-is_dir-clause-represents c = λ m path st named at_end part_is well.
    let s = c.args.state.now in
    let e = c.args.entry.now in
    let found : Some c.in-Some.node.now ≡ get s.disk e.number = c.in-Some.ensures ∙ ap (λ (x : Entry). get s.disk x.number) c.entry.view_is in
    let at = end_at m path false e at_end in
    let other = no_dir_there s m st e.number (λ is. false≢true (sym c.if-not-is_dir.true ∙ c.is_dir.ensures.1 (subst (of_node ⊥ (λ node. IsDir node.body)) (sym found) is))) in
    refused_given m (answer_to_rmdir m path) NotDir (end_is m path false e at (is_root path) named Inval (unlinked_dir m) ∙ rmdir_no_dir m e.dir at.name e.number other) s st

pub returns-then-entry_count-gt0-clause-represents : goal.returns-then-entry_count-gt0-clause-represents
returns-then-entry_count-gt0-clause-represents c = λ m path st named at_end part_is well.
    let s = c.args.state.now in
    let e = c.args.entry.now in
    let found : Some c.in-Some.node.now ≡ get s.disk e.number = c.in-Some.ensures ∙ ap (λ (x : Entry). get s.disk x.number) c.entry.view_is in
    let at = end_at m path false e at_end in
    let dir = is_dir_there s m st e.number (subst (of_node ⊥ (λ node. IsDir node.body)) found (c.is_dir.ensures.0 c.if-not-is_dir.false)) in
    let as_many = as_many_there s m st e.number c.entry_count.result (c.entry_count.ensures ∙ ap (λ (o : Option StoredNode). length (entries_in o)) found) in
    refused_given m (answer_to_rmdir m path) NotEmpty
    (end_is m path false e at (is_root path) named Inval (unlinked_dir m) ∙ rmdir_full m e.dir at.name e.number dir c.entry_count.result as_many c.if-entry_count-gt0.true) s st

pub returns-clause-represents : goal.returns-clause-represents
returns-clause-represents c = λ m path st named at_end part_is well.
    let s = c.args.state.now in
    let e = c.args.entry.now in
    let found : Some c.in-Some.node.now ≡ get s.disk e.number = c.in-Some.ensures ∙ ap (λ (x : Entry). get s.disk x.number) c.entry.view_is in
    let at = end_at m path false e at_end in
    let dir = is_dir_there s m st e.number (subst (of_node ⊥ (λ node. IsDir node.body)) found (c.is_dir.ensures.0 c.if-not-is_dir.false)) in
    let as_many = as_many_there s m st e.number c.entry_count.result (c.entry_count.ensures ∙ ap (λ (o : Option StoredNode). length (entries_in o)) found) in
    let is = end_is m path false e at (is_root path) named Inval (unlinked_dir m) ∙ rmdir_done m e.dir at.name e.number dir c.entry_count.result as_many c.if-entry_count-gt0.false in
    let after = without_name m e.dir at.name e.number in
    done_given after (answer_to_rmdir m path) is c.drop_entry.new.state
    (c.drop_entry.ensures.represents m at.name (record {
      well = st.well;
      tree = st.tree;
      keys = st.keys;
      handles = st.handles;
      caches = st.caches;
      names = stand_fewer m.nodes s.names c.forget_dir.new.self st.names c.forget_dir.ensures.no_more;
      records = st.records;
    }) at.of
    (found_by m e.dir c.args.part.now at.name e.number (ap (led_by m e.dir) part_is ∙ at.found_so)) (well_of after (answer_to_rmdir m path) is well))

pub drop_entry-requires-clause-none : goal.drop_entry-requires-clause-none
drop_entry-requires-clause-none c = subst (λ (x : Entry). HoldsNoneIn c.forget_dir.new.self x.number) c.entry.view_is c.forget_dir.ensures.none
