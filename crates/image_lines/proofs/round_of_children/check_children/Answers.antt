use Rattle.std.proofs.Common.{◌∙◌, sym}
use Rattle.image_lines.specs.Places.{numbers_at}
use Rattle.image_lines.proofs.SearchLemmas.{length-numbers}
use Rattle.image_lines.proofs.ChildRounds.{so_far-none, none_behind, goes_over, less_behind, went_over, stopped, at_end}
use Rattle.image_lines.proofs.round_of_children.check_children.Goals as goal

pub lines-init : goal.lines-init
lines-init c = record {
  so = so_far-none _ _ _ c.in_ok-led.ensures;
  sized = c.in_ok-led.ensures.long ∙ length-numbers c.args.places.now;
}

pub returns-then-not-over_line-clause-refused : goal.returns-then-not-over_line-clause-refused
returns-then-not-over_line-clause-refused c =
    let line = c.next_line-line in
    let none = none_behind c.lines.rest.now line.result.rest.now line.result.ended line.ensures.rest line.ensures.ended in
    let so = c.lines.invariant.so in
    stopped (numbers_at c.args.places.now) c.args.text.now c.lines.rest.now line.result.bytes.now line.result.rest.now c.lines.number c.lines.led.items so
    (goes_over (numbers_at c.args.places.now) c.lines.rest.now line.result.bytes.now line.result.rest.now line.result.ended line.ensures.pieces none)
    (less_behind c.lines.rest.now line.result.bytes.now line.result.rest.now line.result.ended line.ensures.whole none (sym c.is_empty.ensures ∙ c.lines-test.true))
    c.over_line.new.led.items c.over_line.result (c.over_line.ensures so.earlier so.marked) c.if-not-over_line.true

pub lines-preserved : goal.lines-preserved
lines-preserved c =
    let line = c.next_line-line in
    let none = none_behind c.lines.rest.now line.result.rest.now line.result.ended line.ensures.rest line.ensures.ended in
    let so = c.lines.invariant.so in
    let after = went_over (numbers_at c.args.places.now) c.args.text.now c.lines.rest.now line.result.bytes.now line.result.rest.now c.lines.number c.lines.led.items so
    (goes_over (numbers_at c.args.places.now) c.lines.rest.now line.result.bytes.now line.result.rest.now line.result.ended line.ensures.pieces none)
    (less_behind c.lines.rest.now line.result.bytes.now line.result.rest.now line.result.ended line.ensures.whole none (sym c.is_empty.ensures ∙ c.lines-test.true))
    c.over_line.new.led.items c.over_line.result (c.over_line.ensures so.earlier so.marked) c.if-not-over_line.false in
    record { so = after; sized = after.marked.long ∙ length-numbers c.args.places.now }

pub lines-smaller : goal.lines-smaller
lines-smaller c =
    let line = c.next_line-line in
    let none = none_behind c.lines.rest.now line.result.rest.now line.result.ended line.ensures.rest line.ensures.ended in
    less_behind c.lines.rest.now line.result.bytes.now line.result.rest.now line.result.ended line.ensures.whole none (sym c.is_empty.ensures ∙ c.lines-test.true)

pub returns-clause-faultless : goal.returns-clause-faultless
returns-clause-faultless c =
    at_end (numbers_at c.args.places.now) c.args.text.now c.lines.rest.now c.lines.number c.lines.led.items c.lines.invariant.so (sym c.is_empty.ensures ∙ c.lines-test.false)
