use Rattle.std.proofs.Common.{sym, ◌∙◌}
use Rattle.next_calls.proofs.ListingLemmas.{listing_before, alone_is}
use Rattle.next_calls.proofs.listing.retain_last_listing.Goals as goal

pub returns-then-lists_names : goal.returns-then-lists_names
returns-then-lists_names c =
    alone_is c.keep_alone.result c.args.entries.now c.told.entries c.pop.new.self c.keep_alone.new.entries c.in-Some.placed c.told.invariant c.in-Some.ensures.last
    (sym c.lists_names.ensures ∙ c.if-lists_names.true) c.keep_alone.ensures

pub told-preserved : goal.told-preserved
told-preserved c = listing_before c.told.entries c.pop.new.self c.in-Some.placed c.in-Some.ensures.last (sym c.lists_names.ensures ∙ c.if-lists_names.false) ∙ c.told.invariant
