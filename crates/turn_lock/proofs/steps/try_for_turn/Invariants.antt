use Rattle.std.proofs.Common.{◌≡◌}
use Rattle.turn_lock.proofs.steps.try_for_turn.Given as goal

abbrev pub invariant-tries : goal.invariant-tries
invariant-tries g l =
    (l.seat.table_id ≡ l.initial.seat.table_id) × (l.seat.id ≡ l.initial.seat.id)
    × (l.seat.me ≡ l.initial.seat.me)
