use Rattle.std.proofs.Common.{rules}
use Rattle.turn_lock.proofs.Calls.{tries_at, taken_from}
use Rattle.turn_lock.proofs.steps.try_for_turn.Goals as goal

pub compare_exchange-requires : goal.compare_exchange-requires
compare_exchange-requires g c =
    (search rules, search rules, tries_at _ _ _ _ _ _ (search rules) (search rules))

pub returns-then-compare_exchange-eq-FREE-clause-taken : goal.returns-then-compare_exchange-eq-FREE-clause-taken
returns-then-compare_exchange-eq-FREE-clause-taken g c _ =
    taken_from c.tries.seat.me c.args.seat.now.me c.compare_exchange.new.seat.me (search rules)
    (c.compare_exchange.ensures.2.0 (search rules))
