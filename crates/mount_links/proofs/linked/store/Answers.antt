use Rattle.std.proofs.Common.{refl, sym, ◌∙◌}
use Rattle.mount_links.proofs.linked.store.Goals as goal

pub returns-clause-after_calls : goal.returns-clause-after_calls
returns-clause-after_calls g c = record {
  is_step = rw c.requires.asked (refl, sym c.is_link.ensures ∙ c.if-is_link.false, sym c.is_out_of_memory.ensures ∙ c.if-is_out_of_memory.false);
  on_own = g.met.P.MountPort.by_more _ _ _ _ _ c.look-first.ensures.after_calls (rw c.look-first.ensures.caller at c.call-placed.ensures.after_calls);
  on_far = g.met.Q.MountPort.by_none c.args.far.now;
}
