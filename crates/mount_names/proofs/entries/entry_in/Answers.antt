use Rattle.std.proofs.Common.{◌≡◌, Some, None, sym, ap, ◌∙◌}
use Rattle.disk_tree.specs.DiskTree.{children, entries_in}
use Rattle.disk_tree.specs.Entries.{number_under}
use Rattle.mount_names.specs.FoundEntries.{or_not_found}
use Rattle.mount_names.proofs.FoundLemmas.{stored_led, sought_so}
use Rattle.mount_names.proofs.entries.entry_in.Goals as goal

pub returns-then-is_barred-clause-found : goal.returns-then-is_barred-clause-found
returns-then-is_barred-clause-found g c = λ m st is_dir.
    sought_so m c.args.part.now c.args.dir c.args.by_name c.keyed_as-keyed.result (c.keyed_as-keyed.ensures.represents m st) _ (sym c.is_barred.ensures ∙ c.if-is_barred.true)

pub returns-in-Some-find-clause-found : goal.returns-in-Some-find-clause-found
returns-in-Some-find-clause-found g c = λ m st is_dir.
    let s = c.args.state.now in
    let keyed = c.keyed_as-keyed.ensures.represents m st in
    let stored = c.in-Some-stored_shown.stored.now in
    let is : Some c.in-Some-find.number ≡ number_under stored (children s.disk c.args.dir)
    = c.in-Some-find.ensures ∙ (λ i. number_under stored (entries_in (c.in-Some.ensures i))) in
    ap or_not_found (stored_led s.disk s.next_node m st.well st.tree c.args.dir c.args.part.now stored (c.in-Some-stored_shown.ensures.named m st is_dir keyed)
    (Some c.in-Some-find.number) is)
    ∙ sought_so m c.args.part.now c.args.dir c.args.by_name c.keyed_as-keyed.result keyed _ (sym c.is_barred.ensures ∙ c.if-is_barred.false)

pub returns-in-None-clause-found : goal.returns-in-None-clause-found
returns-in-None-clause-found g c = λ m st is_dir.
    let s = c.args.state.now in
    let keyed = c.keyed_as-keyed.ensures.represents m st in
    let stored = c.in-Some-stored_shown.stored.now in
    let is : None ≡ number_under stored (children s.disk c.args.dir)
    = c.in-None.ensures ∙ (λ i. number_under stored (entries_in (c.in-Some.ensures i))) in
    ap or_not_found (stored_led s.disk s.next_node m st.well st.tree c.args.dir c.args.part.now stored (c.in-Some-stored_shown.ensures.named m st is_dir keyed)
    None is)
    ∙ sought_so m c.args.part.now c.args.dir c.args.by_name c.keyed_as-keyed.result keyed _ (sym c.is_barred.ensures ∙ c.if-is_barred.false)
