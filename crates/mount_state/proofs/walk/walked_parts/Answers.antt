use Rattle.std.proofs.Common.{[], Some, ap, ◌∙◌, arith}
use Rattle.mount_model.specs.Walk.{walk_step}
use Rattle.mount_state.proofs.WalkLemmas.{one_more, stopped, same_then}
use Rattle.mount_state.proofs.PassedEntryLemmas.{cached_then, none_within, step_cached, rest_within}
use Rattle.mount_state.proofs.walk.walked_parts.Goals as goal

pub returns-in-Err-clause-value : goal.returns-in-Err-clause-value
returns-in-Err-clause-value g c = λ m represents.
    stopped m c.args.path.now c.args.count c.loop-i.i c.loop-i.node c.in-Some.part.now c.in-Some.ensures c.loop-i-test.true c.in-Err.refusal
    (c.in-Err.ensures.value m (c.loop-i.invariant.1 m represents) ∙ ap (walk_step m c.loop-i.node) c.bytes.ensures) (c.loop-i.invariant.0 m represents)

pub returns-in-Err-clause-brought : goal.returns-in-Err-clause-brought
returns-in-Err-clause-brought g c = λ m represents.
    cached_then _ _ _ _ [] _ (c.loop-i.invariant.4 m represents) c.in-Err.ensures.brought (λ pair is. is) (none_within _)

pub loop-i-preserved : goal.loop-i-preserved
loop-i-preserved g c = (
  λ m represents.
      one_more m c.args.path.now c.args.count c.loop-i.i c.loop-i.node c.in-Some.part.now c.in-Some.ensures c.loop-i-test.true c.in-Ok.next
      (c.in-Ok.ensures.value m (c.loop-i.invariant.1 m represents) ∙ ap (walk_step m c.loop-i.node) c.bytes.ensures) (c.loop-i.invariant.0 m represents),
  λ m represents. c.in-Ok.ensures.represents m (c.loop-i.invariant.1 m represents),
  same_then c.loop-i.invariant.2 c.in-Ok.ensures.same,
  omega (arith, c.in-Ok.ensures.ticks, c.loop-i.invariant.3),
  λ m represents.
      step_cached m c.args.path.now c.args.count c.loop-i.i c.loop-i.node _ (ap Some c.bytes.ensures ∙ c.in-Some.ensures) c.loop-i-test.true c.in-Ok.next
      (c.in-Ok.ensures.value m (c.loop-i.invariant.1 m represents)) _ (c.loop-i.invariant.5 m represents)
      _ _ _ (c.loop-i.invariant.4 m represents) c.in-Ok.ensures.brought,
  λ m represents.
      rest_within m c.args.path.now c.args.count c.loop-i.i c.loop-i.node _ (ap Some c.bytes.ensures ∙ c.in-Some.ensures) c.loop-i-test.true c.in-Ok.next
      (c.in-Ok.ensures.value m (c.loop-i.invariant.1 m represents)) _ (c.loop-i.invariant.5 m represents),
)
