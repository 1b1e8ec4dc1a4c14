use Rattle.std.proofs.Common.{◌≡◌, ◌==◌, ◌+◌, ◌-◌, ◌++◌, refl, length, append-nil, sym, ap, ◌∙◌, arith, map}
use Rattle.text_words.specs.Lines.{pieces_of}
use Rattle.image_lines.specs.WordForms.{nodes_at}
use Rattle.image_lines.specs.Places.{node_of_place}
use Rattle.image_lines.proofs.RoundLemmas.{at_next, at_fault, at_piece, at_end, one_more, none_left, on_at, placed_more, placed_none, shorter, dropped}
use Rattle.image_lines.proofs.round_of_lines.node_places.Goals as goal

pub returns-then-not-line-clause-refused : goal.returns-then-not-line-clause-refused
returns-then-not-line-clause-refused c =
    let whole : c.lines.rest.now ≡ c.next_line-line.result.bytes.now = (rw c.if-not-line.true at c.next_line-line.ensures.whole) ∙ append-nil _ in
    c.lines.invariant.told
    ∙ at_piece c.lines.number c.lines.place c.lines.rest.now c.next_line-line.result.bytes.now (rw c.if-not-line.true at c.next_line-line.ensures.pieces)
    (ap (λ l. length l == 0) (sym whole) ∙ (sym c.is_empty.ensures ∙ c.lines-test.true))

pub returns-in_default-clause-refused : goal.returns-in_default-clause-refused
returns-in_default-clause-refused c =
    c.lines.invariant.told
    ∙ at_fault c.lines.number c.lines.place c.lines.rest.now c.next_line-line.result.bytes.now c.next_line-line.result.rest.now (rw c.if-not-line.false at c.next_line-line.ensures.pieces)
    (sym c.in_default.ensures)

pub lines-preserved : goal.lines-preserved
lines-preserved c =
    let pieces = rw c.if-not-line.false at c.next_line-line.ensures.pieces in
    let whole = rw c.if-not-line.false at c.next_line-line.ensures.whole in
    let less = shorter c.lines.rest.now c.next_line-line.result.bytes.now c.next_line-line.result.rest.now whole in
    record {
      told = c.lines.invariant.told ∙ at_next c.lines.number (c.lines.number + 1) c.lines.place c.in-Some.next c.lines.rest.now c.next_line-line.result.bytes.now c.next_line-line.result.rest.now pieces (sym c.in-Some.ensures) (omega arith);
      nodes =
          one_more c.args.text.now c.next_line-line.result.bytes.now c.next_line-line.result.rest.now (length c.args.text.now - length c.lines.rest.now) c.lines.places.items c.add_place.new.places.items c.in_ok-add_place.ensures (ap pieces_of (sym c.lines.invariant.rest) ∙ pieces)
          ∙ ap (λ l. map (node_of_place c.args.text.now) c.lines.places.items ++ nodes_at (pieces_of l)) (sym c.lines.invariant.rest)
          ∙ c.lines.invariant.nodes;
      placed =
          placed_more c.next_line-line.result.bytes.now c.next_line-line.result.rest.now (length c.args.text.now - length c.lines.rest.now) (length c.args.text.now - length c.next_line-line.result.rest.now) c.lines.places.items c.add_place.new.places.items (pieces_of c.lines.rest.now) c.in_ok-add_place.ensures pieces
          (on_at (length c.args.text.now) c.lines.rest.now c.next_line-line.result.bytes.now c.next_line-line.result.rest.now whole c.lines.invariant.shorter)
          ∙ c.lines.invariant.placed;
      rest = dropped c.args.text.now c.lines.rest.now c.next_line-line.result.bytes.now c.next_line-line.result.rest.now c.lines.invariant.rest whole c.lines.invariant.shorter;
      shorter = omega (arith, less, c.lines.invariant.shorter);
      counted = omega (arith, less, c.lines.invariant.counted);
    }

pub returns-then-not-may_end-clause-refused : goal.returns-then-not-may_end-clause-refused
returns-then-not-may_end-clause-refused c =
    let stops = sym c.may_end.ensures ∙ c.if-not-may_end.true in
    c.lines.invariant.told ∙ at_end c.lines.number c.lines.place c.lines.rest.now (sym c.is_empty.ensures ∙ c.lines-test.false) ∙ rw stops refl

pub returns-clause-faultless : goal.returns-clause-faultless
returns-clause-faultless c =
    let goes = sym c.may_end.ensures ∙ c.if-not-may_end.false in
    c.lines.invariant.told ∙ at_end c.lines.number c.lines.place c.lines.rest.now (sym c.is_empty.ensures ∙ c.lines-test.false) ∙ rw goes refl

pub returns-clause-nodes : goal.returns-clause-nodes
returns-clause-nodes c =
    sym (append-nil (map (node_of_place c.args.text.now) c.lines.places.items))
    ∙ ap (λ l. map (node_of_place c.args.text.now) c.lines.places.items ++ l) (sym (none_left c.lines.rest.now (sym c.is_empty.ensures ∙ c.lines-test.false)))
    ∙ c.lines.invariant.nodes

pub returns-clause-places : goal.returns-clause-places
returns-clause-places c =
    sym (append-nil c.lines.places.items)
    ∙ ap (λ l. c.lines.places.items ++ l) (sym (placed_none c.lines.rest.now (length c.args.text.now - length c.lines.rest.now) (sym c.is_empty.ensures ∙ c.lines-test.false)))
    ∙ c.lines.invariant.placed
