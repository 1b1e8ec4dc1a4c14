use Rattle.std.proofs.Common.{sym, subst}
use Rattle.std.proofs.lemmas.Result.{err_from_is_err_and}
use Rattle.image_lines.specs.Places.{DoRise}
use Rattle.image_lines.proofs.Answered.{places_rise, line_refused, whole_from, refused_from}
use Rattle.image_lines.proofs.image.read_places.Goals as goal

pub returns-in_err-places-clause-refused : goal.returns-in_err-places-clause-refused
returns-in_err-places-clause-refused c =
    let p = err_from_is_err_and c.from_residual.result c.from_residual.ensures.1 in
    rw (p.1, p.2) (line_refused c.args.text.now _ c.in_err-places.ensures.refused)

pub check_children-requires-clause-rising : goal.check_children-requires-clause-rising
check_children-requires-clause-rising c =
    subst DoRise (sym c.as_slice.ensures.value) (places_rise c.args.text.now c.in_ok-places.places.items c.in_ok-places.ensures.faultless c.in_ok-places.ensures.nodes)

pub returns-in_err-check_children-clause-refused : goal.returns-in_err-check_children-clause-refused
returns-in_err-check_children-clause-refused c =
    let p = err_from_is_err_and c.from_residual-in_err-check_children.result c.from_residual-in_err-check_children.ensures.1 in
    rw (p.1, p.2)
    (refused_from c.args.text.now c.in_ok-places.places.items c.as_slice.result.now c.as_slice.ensures.value c.in_ok-places.ensures.faultless c.in_ok-places.ensures.nodes _ c.in_err-check_children.ensures.refused)

pub returns-clause-read : goal.returns-clause-read
returns-clause-read c =
    whole_from c.args.text.now c.in_ok-places.places.items c.as_slice.result.now c.as_slice.ensures.value c.in_ok-places.ensures.faultless c.in_ok-places.ensures.nodes c.in_ok-check_children.ensures.faultless
