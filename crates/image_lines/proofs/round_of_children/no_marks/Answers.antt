use Rattle.image_lines.proofs.ChildRounds.{unmarked}
use Rattle.image_lines.proofs.round_of_children.no_marks.Goals as goal

pub returns : goal.returns
returns c = unmarked c.args.places.now _ (c.in_ok-marks.ensures.items_if_clones_equal (λ y same. same))
