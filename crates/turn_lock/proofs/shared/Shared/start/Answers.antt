use Rattle.std.proofs.Common.{[], ◌∷◌, ◌++◌, Some, sym, ap, ◌∙◌, subst}
use Rattle.atomic_table.specs.Table.{opening}
use Rattle.turn_lock.specs.Turns.{TurnInvariant}
use Rattle.turn_lock.specs.Views.{first_view}
use Rattle.turn_lock.proofs.Starting.{starts_kept}
use Rattle.turn_lock.proofs.shared.Shared.start.Goals as goal

pub new-requires-2 : goal.new-requires-2
new-requires-2 g c =
    subst (λ slots. TurnInvariant g.M.Machine.reaches c.args.numbers c.args.allowance
    (opening (0 ∷ 0 ∷ []) slots (first_view c.args.numbers c.args.allowance)))
    (sym (c.push_reserved.ensures.items ∙ ap (λ l. l ++ Some c.in_ok-new.field-0 ∷ []) c.in-Ok.ensures.items
    ∙ ap (λ held. Some held ∷ []) c.in_ok-new.ensures.held))
    (starts_kept g.M.Machine.reaches c.args.numbers c.args.allowance c.args.value c.requires.reaches
    c.requires.allowance)
