use Rattle.std.proofs.Common.{length, ap, arith}
use Rattle.load_gen.proofs.CallerLemmas.{length-verbs}
use Rattle.load_gen.proofs.callers.section.Goals as goal

pub in_lines-requires : goal.in_lines-requires
in_lines-requires c =
    omega (arith, ap length c.in_ok-verbs.ensures.value, length-verbs c.args.caller c.args.numbers.now.last)
