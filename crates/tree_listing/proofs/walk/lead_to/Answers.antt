use Rattle.std.proofs.Common.{◌≡◌, [], ◌∷◌, length, set, get_or, refl, sym, ap, ◌∙◌, subst, arith, append-nil, length-append}
use Rattle.std.specs.Prelude.{All}
use Rattle.image_lines.specs.Image.{numbers_of}
use Rattle.tree_listing.specs.declared.walk.Way.TheVariants.{Nowhere, By}
use Rattle.tree_listing.specs.PlacedEntries.{IsReached}
use Rattle.tree_listing.specs.Walk.{is_among}
use Rattle.tree_listing.specs.Ways.{AreWays}
use Rattle.tree_listing.proofs.Members.{In, among_from_in}
use Rattle.tree_listing.proofs.LeadLemmas.{entry_to_from, child_there}
use Rattle.tree_listing.proofs.WalkLemmas.{ways_more, count_less, reached_more, was_found, index_within}
use Rattle.tree_listing.proofs.walk.lead_to.Goals as goal

pub unreachable-requires : goal.unreachable-requires
unreachable-requires c =
    let from = entry_to_from c.args.image.now c.args.child c.requires.led.placed c.requires.led.leads in
    let there = subst (λ k. In k (numbers_of c.args.image.now)) from.2 (child_there c.args.image.now c.text-text.ensures.image.children c.requires.led.placed.0 c.requires.led.placed.1 from.0 from.1).1 in
    absurd (cc (c.in_default.ensures, among_from_in (numbers_of c.args.image.now) c.args.child there))

pub returns-in_ok-push-clause-walk : goal.returns-in_ok-push-clause-walk
returns-in_ok-push-clause-walk c =
    let image = c.args.image.now in
    let ways = c.args.walk.now.ways.items in
    let order = c.args.walk.now.order.items in
    let way = By c.args.parent c.args.at in
    let items = c.in_ok-push.ensures.items in
    let within = index_within image order ways c.args.child c.in-Some.index c.requires.walk.ways c.in-Some.ensures in
    let was : get_or ways c.in-Some.index Nowhere ≡ Nowhere = (λ i. get_or ways c.in-Some.index (sym c.in-Nowhere.is i)) ∙ sym c.index.ensures ∙ c.in-Nowhere.is in
    let fewer = count_less ways c.in-Some.index way within was refl in
    let long = ap length items ∙ length-append order (c.args.child ∷ []) in record {
      ways =
          subst (λ l. AreWays image (is_among l) (set ways c.in-Some.index way)) (sym items)
          (ways_more image c.text-text.ensures.image.lines.rising order ways c.in-Some.index c.args.child way c.requires.walk.ways c.in-Some.ensures (refl, c.requires.led));
      reached = subst (All (IsReached image)) (sym items) (reached_more image order c.args.child c.args.parent c.args.at c.requires.walk.reached c.requires.found c.requires.led);
      counted = omega (arith, fewer, long, c.requires.walk.counted);
    }

pub returns-in_default-index : goal.returns-in_default-index
returns-in_default-index c = record {
  walk = c.requires.walk;
  goes_on = ([], sym (append-nil c.args.walk.now.order.items));
  found = was_found c.args.image.now c.args.walk.now.order.items c.args.walk.now.ways.items c.in-Some.index c.args.child c.index.result.now c.requires.walk.ways c.in-Some.ensures c.index.ensures c.in_default-index.not-Nowhere;
}
