use Rattle.std.proofs.Common.{◌≡◌, length, subst, arith}
use Rattle.std.proofs.lemmas.List.Elements.{recursion_from_All}
use Rattle.tree_listing.specs.PlacedEntries.{IsReached}
use Rattle.tree_listing.specs.Walk.{AreFollowed, is_among}
use Rattle.tree_listing.proofs.Members.{holds_in, in_from_among}
use Rattle.tree_listing.proofs.WalkLemmas.{all_found}
use Rattle.tree_listing.proofs.walk.ways_to_reached.Goals as goal

pub returns : goal.returns
returns c =
    let image = c.args.image.now in
    let order = c.each.walk.order.items in
    let walk = c.each.invariant.walk in
    let end : c.each.next ≡ length order = omega (arith, c.each.walk.order.ok.0, c.len.ensures, c.each-test.false, c.each.invariant.within) in record {
      reached = is_among order;
      exact = λ n. (
        (λ found. holds_in (IsReached image) order n (recursion_from_All (IsReached image) order walk.reached) (in_from_among order n found)),
        (λ own. all_found image order c.each.invariant.root (subst (AreFollowed image order) end c.each.invariant.followed) own),
      );
      own = walk.ways;
    }
