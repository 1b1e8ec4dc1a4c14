use Rattle.std.proofs.Common.{◌≡◌, ◌++◌, refl, ap, subst}
use Rattle.call_history.specs.Entries.{entry, by, entries_by}
use Rattle.turn_lock.proofs.Sharing.{own_after_call}
use Rattle.turn_lock.proofs.shared.Shared.call.Goals as goal

pub returns-clause-own : goal.returns-clause-own
returns-clause-own g c =
    subst (λ p. entries_by p.who c.give_back.new.seat.me.0.seen
    ≡ by p.who p.past ++ c.give_back.new.seat.me.0.mine) c.pass.view_is
    (own_after_call c.pass.inside.who c.pass.inside.seat.me.0 c.take_turn.new.seat.me.0 c.enter-place.new.seat.me.0 c.give_back.new.seat.me.0 c.take_turn.result.history
    (entry c.pass.inside.who c.args.call.now (g.M.Machine.reply c.begin-lent.result))
    c.pass.invariant.who_is c.pass.invariant.mine_own refl (ap (λ m. m.0) c.take_turn.ensures.turn)
    (ap (λ m. m.0) c.enter-place.ensures.counted) (ap (λ m. m.0) c.give_back.ensures.free)
    c.enter-place.ensures.own)
