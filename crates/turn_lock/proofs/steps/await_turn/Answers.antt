use Rattle.std.proofs.Common.{rules}
use Rattle.turn_lock.proofs.Calls.{taken_from}
use Rattle.turn_lock.proofs.steps.await_turn.Goals as goal

pub returns-clause-taken : goal.returns-clause-taken
returns-clause-taken g c =
    taken_from c.try_for_turn.new.seat.me c.args.seat.now.me c.sleep_for_turn.new.seat.me
    (c.try_for_turn.ensures.kept (search rules)) c.sleep_for_turn.ensures.taken
