-- The new entry is made before the old one is removed, so a refusal leaves the tree unchanged.
use Rattle.std.proofs.Common.{◌≡◌, ℕ, Option, Some, IfSome, sym, ap, subst, ◌∙◌}
use Rattle.number_map.specs.Numbered.{changed}
use Rattle.disk_tree.specs.Entries.{number_under, with_entry, without_entry}
use Rattle.disk_tree.specs.Nodes.{on_body, with_entries}
use Rattle.disk_tree.specs.DiskTree.{children}
use Rattle.disk_tree.specs.EntryChanges.{with_moved_entry}
use Rattle.disk_tree.proofs.DiskLemmas.{same_total, entries_keep, moved_either}
use Rattle.disk_tree.proofs.tree.DiskTree.move_entry.Goals as goal

pub invariant_of-self : goal.invariant_of-self
invariant_of-self c = (
  c.self-2.invariant.0
      ∙ same_total c.self-2.inside.nodes c.add_entry.new.nodes c.args.to (on_body (with_entries (with_entry c.args.new_name.now c.in-Some.number))) c.in-Ok.ensures.put
      (λ node. entries_keep (with_entry c.args.new_name.now c.in-Some.number) node.body)
      ∙ same_total c.add_entry.new.nodes c.remove_entry.new.nodes c.args.dir (on_body (with_entries (without_entry c.args.name.now))) c.remove_entry.ensures.removed
      (λ node. entries_keep (without_entry c.args.name.now) node.body),
  c.self-2.invariant.1,
)

pub returns-in-Ok-clause-moved : goal.returns-in-Ok-clause-moved
returns-in-Ok-clause-moved c =
    let P : Option ℕ → Type 0 = λ o. IfSome o (λ number. c.remove_entry.new.nodes ≡ with_moved_entry c.args.self.now c.args.dir c.args.name.now c.args.to c.args.new_name.now number) in
    let found : number_under c.args.name.now (children c.args.self.now c.args.dir) ≡ Some c.in-Some.number = sym c.entry.ensures ∙ c.in-Some.is in
    let put = on_body (with_entries (with_entry c.args.new_name.now c.in-Some.number)) in
    let taken = on_body (with_entries (without_entry c.args.name.now)) in
    subst P (sym found)
    (c.remove_entry.ensures.removed
    ∙ ap (λ d. changed d c.args.dir taken) (c.in-Ok.ensures.put ∙ ap (λ d. changed d c.args.to put) c.self-2.view_is)
    ∙ moved_either c.args.self.now c.args.dir c.args.to c.args.name.now c.args.new_name.now c.in-Some.number found)
