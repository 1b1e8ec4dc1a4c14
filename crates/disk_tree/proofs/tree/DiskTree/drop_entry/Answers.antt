-- An entry and a name are no blocks. If the name is not there, the tree is unchanged.
use Rattle.std.proofs.Common.{◌≡◌, ℕ, Option, Some, IfSome, false, refl, sym, ap, subst, ◌∙◌}
use Rattle.number_map.specs.Numbered.{changed}
use Rattle.disk_tree.specs.Entries.{number_under, without_entry}
use Rattle.disk_tree.specs.Nodes.{on_body, with_entries, named_as}
use Rattle.disk_tree.specs.DiskTree.{children}
use Rattle.disk_tree.specs.EntryChanges.{without_entry_and_name}
use Rattle.disk_tree.proofs.DiskLemmas.{same_total, entries_keep, nothing_dropped}
use Rattle.disk_tree.proofs.tree.DiskTree.drop_entry.Goals as goal

pub invariant_of-self : goal.invariant_of-self
invariant_of-self c = (
  c.self.invariant.0
      ∙ same_total c.self.inside.nodes c.remove_entry.new.nodes c.args.dir (on_body (with_entries (without_entry c.args.name.now))) c.remove_entry.ensures.removed
      (λ node. entries_keep (without_entry c.args.name.now) node.body)
      ∙ same_total c.remove_entry.new.nodes c.set_name_flag.new.nodes c.in-Some.number (named_as false) c.set_name_flag.ensures (λ node. refl),
  c.self.invariant.1,
)

pub invariant_of-self-in-None : goal.invariant_of-self-in-None
invariant_of-self-in-None c = (
  c.self.invariant.0
      ∙ same_total c.self.inside.nodes c.remove_entry.new.nodes c.args.dir (on_body (with_entries (without_entry c.args.name.now))) c.remove_entry.ensures.removed
      (λ node. entries_keep (without_entry c.args.name.now) node.body),
  c.self.invariant.1,
)

pub returns-in-Some-clause-gone : goal.returns-in-Some-clause-gone
returns-in-Some-clause-gone c =
    let P : Option ℕ → Type 0 = λ o. IfSome o (λ number. c.set_name_flag.new.nodes ≡ without_entry_and_name c.args.self.now c.args.dir c.args.name.now number) in
    let found : number_under c.args.name.now (children c.args.self.now c.args.dir) ≡ Some c.in-Some.number
    = ap (λ d. number_under c.args.name.now (children d c.args.dir)) (sym c.self.view_is) ∙ sym c.remove_entry.ensures.number ∙ c.in-Some.is in
    subst P (sym found)
    (c.set_name_flag.ensures
    ∙ ap (λ d. changed d c.in-Some.number (named_as false))
    (c.remove_entry.ensures.removed ∙ ap (λ d. changed d c.args.dir (on_body (with_entries (without_entry c.args.name.now)))) c.self.view_is))

pub returns-in-None-clause-kept : goal.returns-in-None-clause-kept
returns-in-None-clause-kept c absent =
    c.remove_entry.ensures.removed
    ∙ ap (λ d. changed d c.args.dir (on_body (with_entries (without_entry c.args.name.now)))) c.self.view_is
    ∙ nothing_dropped c.args.self.now c.args.dir c.args.name.now absent
