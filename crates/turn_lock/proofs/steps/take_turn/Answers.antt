use Rattle.std.proofs.Common.{rules, ◌≡◌, ◌∷◌, [], Some, ap, sym, ◌∙◌}
use Rattle.atomic_table.specs.Table.{rest}
use Rattle.turn_lock.proofs.steps.take_turn.Goals as goal

pub exchange-requires : goal.exchange-requires
exchange-requires g c =
    let got = c.await_turn.ensures.taken in
    let carried : c.await_turn.new.seat.me.1 ≡ (0, Some got.0) ∷ [] = ap (λ m. m.1) got.2 in
    (search rules, (Some got.0, carried ∙ ap (λ cs. (0, Some got.0) ∷ rest cs) (sym carried)))
