use Rattle.std.proofs.Common.{rules, ◌≡◌, []}
use Rattle.mount_names.proofs.ListedLemmas.{all_shown, first_shown, next_shown}
use Rattle.mount_names.proofs.listings.shown_names.Goals as goal

pub each-init : goal.each-init
each-init c = λ all shows.
    first_shown c.args.reading.now c.args.entries.now _ _ all (search rules) c.in_ok-shown.ensures shows

pub each-preserved : goal.each-preserved
each-preserved c = λ all shows.
    next_shown c.args.reading.now c.in-Some.entry.now c.each.entry-iterator _ c.each.shown _ all (search rules) (λ name here. search rules) (c.each.invariant all shows)

pub returns : goal.returns
returns c = λ all shows.
    let left : c.each.entry-iterator ≡ [] = search rules in
    all_shown c.args.reading.now c.each.entry-iterator c.each.shown all left (c.each.invariant all shows)
