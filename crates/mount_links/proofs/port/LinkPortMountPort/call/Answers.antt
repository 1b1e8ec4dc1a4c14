use Rattle.std.proofs.Common.{[], ◌∷◌, sym, subst, append-nil, ◌-◌}
use Rattle.call_history.specs.Entries.{entry}
use Rattle.mount_links.specs.LinkCalls.{LinkAfterCalls, link_view}
use Rattle.mount_links.proofs.port.LinkPortMountPort.call.Goals as goal

pub returns-clause-after_calls : goal.returns-clause-after_calls
returns-clause-after_calls g c =
    let made = c.made-made.ensures.after_calls in
    let new = link_view c.made-made.new.own c.made-made.new.far (c.self.inside.left - 1) c.push_reserved.new.self.items in
    subst (λ old. LinkAfterCalls g.P.MountPort.after_calls g.Q.MountPort.after_calls old
    ((c.made-made.result.placed.place, entry (g.P.MountPort.who old.own) c.args.call.now c.made-made.result.placed.reply) ∷ []) new)
    c.self.view_is
    record {
      steps = c.made-made.result.step ∷ [];
      are_steps = (made.is_step, tt);
      kept = c.push_reserved.ensures.items;
      on_own = subst (λ l. g.P.MountPort.after_calls c.self.inside.own l c.made-made.new.own) (sym (append-nil _)) made.on_own;
      on_far = subst (λ l. g.Q.MountPort.after_calls c.self.inside.far l c.made-made.new.far) (sym (append-nil _)) made.on_far;
    }
