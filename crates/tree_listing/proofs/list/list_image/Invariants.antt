use Rattle.std.proofs.Common.{◌≡◌, ℕ, Bool}
use Rattle.tree_listing.specs.Listing.{listed}
use Rattle.tree_listing.specs.Ways.{AreWays}
use Rattle.tree_listing.proofs.ListLemmas.{listing_to}
use Rattle.tree_listing.proofs.list.list_image.Given as goal

abbrev pub invariant-nodes : goal.invariant-nodes
invariant-nodes l = (reached : ℕ → Bool) → AreWays l.image reached l.ways.items → l.text.items ≡ listing_to (listed l.reader l.image) reached l.image l.index
