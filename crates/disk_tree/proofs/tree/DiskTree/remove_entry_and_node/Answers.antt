-- An entry is no block, and the blocks of its node are no longer counted. If the name is not there, the
-- tree is unchanged.
use Rattle.std.proofs.Common.{◌≡◌, ℕ, Option, Some, IfSome, false, length, sym, ap, subst, ◌∙◌, arith}
use Rattle.number_map.specs.Numbered.{changed, remove}
use Rattle.number_map.proofs.NumberedLemmas.{removed_after_change}
use Rattle.disk_tree.specs.Entries.{number_under, without_entry}
use Rattle.disk_tree.specs.Nodes.{on_body, with_entries, named_as}
use Rattle.disk_tree.specs.DiskTree.{Disk, children, block_total, blocks_in}
use Rattle.disk_tree.specs.EntryChanges.{without_entry_and_name}
use Rattle.disk_tree.proofs.DiskLemmas.{same_total, entries_keep, nothing_dropped, removed_total}
use Rattle.disk_tree.proofs.tree.DiskTree.remove_entry_and_node.Goals as goal

pub overflow_sub-self : goal.overflow_sub-self
overflow_sub-self c =
    let gone : c.count_of_blocks-gone.result ≡ length (blocks_in c.remove.result) = c.count_of_blocks-gone.ensures in
    let same = same_total c.self.inside.nodes c.remove_entry.new.nodes c.args.dir (on_body (with_entries (without_entry c.args.name.now))) c.remove_entry.ensures.removed (λ node. entries_keep (without_entry c.args.name.now) node.body) in
    let all = removed_total c.remove_entry.new.nodes c.in-Some.number in
    let counts = ap (λ o. length (blocks_in o)) c.remove.ensures.value in
    omega (arith, c.self.invariant.0, same, gone, all, counts)

pub invariant_of-self : goal.invariant_of-self
invariant_of-self c =
    let gone : c.count_of_blocks-gone.result ≡ length (blocks_in c.remove.result) = c.count_of_blocks-gone.ensures in
    let same = same_total c.self.inside.nodes c.remove_entry.new.nodes c.args.dir (on_body (with_entries (without_entry c.args.name.now))) c.remove_entry.ensures.removed (λ node. entries_keep (without_entry c.args.name.now) node.body) in
    let all = removed_total c.remove_entry.new.nodes c.in-Some.number in
    let counts = ap (λ o. length (blocks_in o)) c.remove.ensures.value in
    let left = ap block_total c.remove.ensures.removed in
    (omega (arith, c.self.invariant.0, same, gone, all, counts, left), omega (arith, c.self.invariant.1))

pub invariant_of-self-in-None : goal.invariant_of-self-in-None
invariant_of-self-in-None c = (
  c.self.invariant.0
      ∙ same_total c.self.inside.nodes c.remove_entry.new.nodes c.args.dir (on_body (with_entries (without_entry c.args.name.now))) c.remove_entry.ensures.removed
      (λ node. entries_keep (without_entry c.args.name.now) node.body),
  c.self.invariant.1,
)

pub returns-in-Some-clause-gone : goal.returns-in-Some-clause-gone
returns-in-Some-clause-gone c =
    let P : Option ℕ → Type 0 = λ o. IfSome o (λ number. c.remove.new.self ≡ remove (without_entry_and_name c.args.self.now c.args.dir c.args.name.now number) number) in
    let found : number_under c.args.name.now (children c.args.self.now c.args.dir) ≡ Some c.in-Some.number
    = ap (λ d. number_under c.args.name.now (children d c.args.dir)) (sym c.self.view_is) ∙ sym c.remove_entry.ensures.number ∙ c.in-Some.is in
    let taken : Disk → Disk = λ d. changed d c.args.dir (on_body (with_entries (without_entry c.args.name.now))) in
    subst P (sym found)
    (c.remove.ensures.removed
    ∙ ap (λ (d : Disk). remove d c.in-Some.number) (c.remove_entry.ensures.removed ∙ ap taken c.self.view_is)
    ∙ sym (removed_after_change (taken c.args.self.now) c.in-Some.number (named_as false)))

pub returns-in-None-clause-kept : goal.returns-in-None-clause-kept
returns-in-None-clause-kept c absent =
    c.remove_entry.ensures.removed
    ∙ ap (λ d. changed d c.args.dir (on_body (with_entries (without_entry c.args.name.now)))) c.self.view_is
    ∙ nothing_dropped c.args.self.now c.args.dir c.args.name.now absent
