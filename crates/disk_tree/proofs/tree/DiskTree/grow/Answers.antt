-- The count rises by the blocks that are added.
use Rattle.std.proofs.Common.{◌≡◌, length, sym, ap, subst, ◌∙◌, arith}
use Rattle.disk_tree.specs.DiskTree.{Disk, IsFileAt, file_blocks, block_total}
use Rattle.disk_tree.proofs.DiskLemmas.{grown_total}
use Rattle.disk_tree.proofs.tree.DiskTree.grow.Goals as goal

pub invariant_of-self : goal.invariant_of-self
invariant_of-self c =
    let P : Disk → Type 0 = λ d. IsFileAt d c.args.file in
    let file : IsFileAt c.self.inside.nodes c.args.file = subst P (sym c.self.view_is) c.requires in
    let now = ap block_total c.in-Ok.ensures.grown ∙ grown_total c.self.inside.nodes c.args.file c.args.blocks file in
    let had : c.block_count.result ≡ length (file_blocks c.self.inside.nodes c.args.file)
    = c.block_count.ensures ∙ ap (λ d. length (file_blocks d c.args.file)) (sym c.self.view_is) in
    (omega (arith, c.self.invariant.0, now, had, c.saturating_sub-more.ensures), omega arith)
