use Rattle.std.proofs.Common.{◌+◌, length, ap}
use Rattle.script_runs.proofs.PassLemmas.{halves}
use Rattle.script_runs.proofs.passes.cut.Goals as goal

pub returns : goal.returns
returns g c = record {
  halves = halves c.args.most c.args.shared.now c.args.pass.now c.split.new.pass c.in_ok-upper.upper c.args.first.now c.args.others.now _ c.in-Some.calls
      c.requires.can_run c.requires.some_first c.requires.some_others c.in-Some.ensures.some.0
      (ap (λ who. who + length c.args.first.now) c.who.ensures.value)
      c.in_ok-upper.ensures.old c.in_ok-upper.ensures.new;
  kept = tt;
}
