-- The node's body is changed, or stays if there was no memory.
use Rattle.std.proofs.Common.{◌≡◌, sym}
use Rattle.disk_tree.specs.Nodes.{with_blocks}
use Rattle.disk_tree.specs.Blocks.{blocks_grown_to}
use Rattle.disk_tree.proofs.ResultLemmas.{on_ok_so, on_err_so}
use Rattle.disk_tree.proofs.NodeLemmas.{body_changed, body_kept}
use Rattle.disk_tree.proofs.edits.grow.Goals as goal

pub returns-clause-grown : goal.returns-clause-grown
returns-clause-grown c =
    on_ok_so c.grow.result (c.grow.new.self ≡ with_blocks (blocks_grown_to c.args.count) c.in-Some.node.now.body) _
    (body_changed c.args.nodes.now c.args.file c.in-Some.node.now c.grow.new.self (sym c.in-Some.ensures.value) (with_blocks (blocks_grown_to c.args.count))) c.grow.ensures.grown

pub returns-clause-kept : goal.returns-clause-kept
returns-clause-kept c =
    on_err_so c.grow.result (c.grow.new.self ≡ c.in-Some.node.now.body) _
    (body_kept c.args.nodes.now c.args.file c.in-Some.node.now c.grow.new.self (sym c.in-Some.ensures.value)) c.grow.ensures.kept
