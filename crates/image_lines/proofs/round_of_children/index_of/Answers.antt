use Rattle.std.proofs.Common.{rules, sym, subst}
use Rattle.std.proofs.lemmas.List.Sorted.{answers_always}
use Rattle.image_lines.specs.Places.{numbers_at}
use Rattle.image_lines.specs.Marks.{IsIndexOf}
use Rattle.image_lines.proofs.SearchLemmas.{searched}
use Rattle.image_lines.proofs.round_of_children.index_of.Goals as goal

-- the closure gives a node's number
pub returns : goal.returns
returns c =
    let facts = c.binary_search_by_key.ensures in
    let by_key = facts.position (λ place. place.number) (answers_always _ _ _ (λ f a r g called. search rules)) in
    subst (IsIndexOf (numbers_at c.args.places.now) c.args.number) (sym c.ok.ensures.value)
    (searched c.args.places.now c.requires.rising c.args.number _ facts.bound by_key)
