use Rattle.std.proofs.Common.{◌≡◌, ◌≤◌, ◌-◌, true, length}
use Rattle.tree_listing.specs.Walk.{AreFollowed, IsWalk, is_among}
use Rattle.tree_listing.proofs.walk.ways_to_reached.Given as goal

abbrev pub invariant-each : goal.invariant-each
invariant-each l = record {
  walk : IsWalk l.image l.walk;
  root : is_among l.walk.order.items 0 ≡ true;
  followed : AreFollowed l.image l.walk.order.items l.next;
  within : l.next ≤ length l.walk.order.items;
}

abbrev pub decreases-each : goal.decreases-each
decreases-each l = length l.image - l.next
