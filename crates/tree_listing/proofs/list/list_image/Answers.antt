use Rattle.std.proofs.Common.{arith}
use Rattle.tree_listing.specs.Listing.{listed}
use Rattle.tree_listing.proofs.ListLemmas.{goes_on}
use Rattle.tree_listing.proofs.list.list_image.Goals as goal

pub nodes-preserved : goal.nodes-preserved
nodes-preserved c = λ reached are.
    goes_on (listed c.reader_of-reader.result c.args.image.now) reached c.args.image.now c.in_ok-ways.ways.items c.nodes.index c.index.result.now c.nodes.text.items c.push_found.new.text.items are
    (omega (arith, c.nodes-test.true, c.node_count-index-end.ensures)) c.index.ensures (c.nodes.invariant reached are) c.in_ok-push_found.ensures
