use Rattle.std.proofs.Common.{rules}
use Rattle.turn_lock.proofs.Calls.{marks_at, taken_from}
use Rattle.turn_lock.proofs.steps.sleep_for_turn.Goals as goal

pub swap-requires : goal.swap-requires
swap-requires g c =
    (search rules, search rules, marks_at _ _ _ _ _ _ _ (search rules) (search rules) (search rules))

pub returns-then-swap-eq-FREE-clause-taken : goal.returns-then-swap-eq-FREE-clause-taken
returns-then-swap-eq-FREE-clause-taken g c =
    taken_from c.loop.seat.me c.args.seat.now.me c.swap.new.seat.me (search rules)
    (c.swap.ensures.2.0 (search rules))
