use Rattle.std.proofs.Common.{◌≡◌, [], ◌∷◌, ◌++◌, List, ℕ, length, set, replicate, refl, sym, ap, ◌∙◌, subst, arith}
use Rattle.std.specs.Prelude.{All, count_by}
use Rattle.std.proofs.lemmas.List.{length-replicate, get_or-replicate}
use Rattle.std.proofs.lemmas.List.Elements.{All-cons, All-nil}
use Rattle.tree_listing.specs.PlacedEntries.{IsReached}
use Rattle.tree_listing.specs.declared.walk.Way.TheVariants.{Nowhere, AtRoot}
use Rattle.tree_listing.specs.Walk.{is_among}
use Rattle.tree_listing.specs.Ways.{AreWays, is_nowhere}
use Rattle.tree_listing.proofs.LeadLemmas.{root_not_led}
use Rattle.tree_listing.proofs.WalkLemmas.{ways_more, no_ways, count_less, count_all, root_first, index_within}
use Rattle.tree_listing.proofs.walk.begin.Goals as goal

pub returns-clause-walk : goal.returns-clause-walk
returns-clause-walk c =
    let image = c.args.image.now in
    let count = c.node_count-count.result in
    let is = c.text-text.ensures.image in
    let items : c.in_ok-ways.ways.items ≡ replicate count Nowhere = c.in_ok-ways.ensures.items_if_clones_equal (λ y e. e) in
    let order : c.push.new.self.items ≡ 0 ∷ [] = c.in_ok-push.ensures.items ∙ ap (λ (l : List ℕ). l ++ 0 ∷ []) c.in_ok-order.ensures.items in
    let none = no_ways image count c.node_count-count.ensures in
    let first = root_first image is.lines.root in
    let within = index_within image [] (replicate count Nowhere) 0 0 none first in
    let fewer = count_less (replicate count Nowhere) 0 AtRoot within (get_or-replicate count 0 Nowhere Nowhere (let long = length-replicate count Nowhere in omega (arith, long, within))) refl in
    let all = count_all count in
    let one = ap length order in
    let parts = ap (λ ways. count_by is_nowhere (set ways 0 AtRoot)) items in record {
      ways =
          subst (λ ways. AreWays image (is_among c.push.new.self.items) (set ways 0 AtRoot)) (sym items)
          (subst (λ order. AreWays image (is_among order) (set (replicate count Nowhere) 0 AtRoot)) (sym order)
          (ways_more image is.lines.rising [] (replicate count Nowhere) 0 0 AtRoot none first (refl, root_not_led image is.children)));
      reached = subst (All (IsReached image)) (sym order) (All-cons (IsReached image) 0 [] IsReached.root (All-nil (IsReached image)));
      counted = omega (arith, fewer, all, one, parts, c.node_count-count.ensures);
    }
