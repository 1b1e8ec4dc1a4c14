use Rattle.std.proofs.lemmas.Bool.{ne_eqb}
use Rattle.image_lines.specs.Places.{numbers_at}
use Rattle.image_lines.proofs.SearchLemmas.{leads_once, one_mark}
use Rattle.image_lines.proofs.round_of_children.lead_to.Goals as goal

pub returns : goal.returns
returns c = λ earlier are.
    let numbers = numbers_at c.args.places.now in (
      leads_once numbers earlier c.args.led.now c.args.child c.in-Some.index are c.in-Some.ensures (ne_eqb c.args.child 0 c.if-child-eq0.false) c.if-led-index.false,
      one_mark c.args.places.now c.requires.rising earlier c.args.led.now c.args.child c.in-Some.index are c.in-Some.ensures,
    )
