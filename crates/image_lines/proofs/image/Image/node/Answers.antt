use Rattle.std.proofs.Common.{◌<◌, length, slice_get, ap, sym, ◌∙◌, subst}
use Rattle.std.specs.List.{after_first}
use Rattle.text_words.specs.Lines.{is_line_feed, pieces_of}
use Rattle.image_lines.specs.ImageText.{image_text}
use Rattle.image_lines.specs.Nodes.{IsRestOf, text_after}
use Rattle.image_lines.proofs.NodeLemmas.{text_is, begins, node_is, no_node_line, node_found, rest_found, index_within, end_of_record, is_image}
use Rattle.image_lines.proofs.PlaceLemmas.{rest_at}
use Rattle.image_lines.proofs.image.Image.node.Goals as goal

pub from_index-requires : goal.from_index-requires
from_index-requires c =
    begins c.self.inside.text.now c.index-place.result.now
    (node_is c.self.inside.text.now c.self.inside.places.items c.self.invariant.1 c.args.index c.index-place.result.now
    (index_within c.self.inside.text.now c.self.inside.places.items c.args.self.now c.args.index c.self.view_is c.requires) c.index-place.ensures)

pub unreachable-requires : goal.unreachable-requires
unreachable-requires c =
    no_node_line c.self.inside.text.now c.next_line-line.result.bytes.now _ c.index-place.result.now
    (ap pieces_of (sym c.from_index.ensures) ∙ c.next_line-line.ensures.pieces) (sym c.read_node_line.ensures ∙ c.in-None.is)
    (node_is c.self.inside.text.now c.self.inside.places.items c.self.invariant.1 c.args.index c.index-place.result.now
    (index_within c.self.inside.text.now c.self.inside.places.items c.args.self.now c.args.index c.self.view_is c.requires) c.index-place.ensures)

pub returns-clause-node : goal.returns-clause-node
returns-clause-node c =
    ap (λ image. slice_get image c.args.index) (sym c.self.view_is)
    ∙ node_found c.self.inside.text.now c.self.inside.places.items c.args.index c.index-place.result.now c.in-Some.field-0 c.next_line-line.result.bytes.now c.next_line-line.result.rest.now c.next_line-line.result.ended
    (index_within c.self.inside.text.now c.self.inside.places.items c.args.self.now c.args.index c.self.view_is c.requires) c.index-place.ensures
    (ap pieces_of (sym c.from_index.ensures) ∙ c.next_line-line.ensures.pieces)
    (end_of_record c.next_line-line.result.ended c.from_index.result.now c.next_line-line.result.rest.now c.next_line-line.ensures.ended c.next_line-line.ensures.rest)
    (sym c.read_node_line.ensures ∙ c.in-Some.is)

pub returns-clause-rest : goal.returns-clause-rest
returns-clause-rest c =
    subst (λ text. IsRestOf text c.next_line-line.result.rest.now)
    (text_is c.self.inside.text.now c.self.inside.places.items c.self.invariant.1 ∙ ap image_text c.self.view_is)
    (rest_found c.self.inside.text.now c.index-place.result.now.at c.next_line-line.result.bytes.now c.next_line-line.result.rest.now c.next_line-line.result.ended
    (begins c.self.inside.text.now c.index-place.result.now
    (node_is c.self.inside.text.now c.self.inside.places.items c.self.invariant.1 c.args.index c.index-place.result.now
    (index_within c.self.inside.text.now c.self.inside.places.items c.args.self.now c.args.index c.self.view_is c.requires) c.index-place.ensures))
    (sym c.from_index.ensures ∙ c.next_line-line.ensures.whole)
    (end_of_record c.next_line-line.result.ended c.from_index.result.now c.next_line-line.result.rest.now c.next_line-line.ensures.ended c.next_line-line.ensures.rest))

pub returns-clause-after : goal.returns-clause-after
returns-clause-after c =
    c.next_line-line.ensures.rest
    ∙ ap (after_first is_line_feed) c.from_index.ensures
    ∙ rest_at c.self.inside.text.now _ (is_image c.self.inside.text.now c.self.inside.places.items c.self.invariant.1)
    (text_is c.self.inside.text.now c.self.inside.places.items c.self.invariant.1)
    c.self.inside.places.items c.args.index c.index-place.result.now c.self.invariant.2 (subst (λ image. c.args.index < length image) (sym c.self.view_is) c.requires) c.index-place.ensures
    ∙ ap (λ image. text_after image c.args.index) c.self.view_is
