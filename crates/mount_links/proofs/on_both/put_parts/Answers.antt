use Rattle.std.proofs.Common.{[], ◌∷◌, ◌++◌, ap, sym, ◌∙◌, append_assoc}
use Rattle.mount_links.specs.ShownParts.{logged_load}
use Rattle.mount_links.specs.Linked.{own_part}
use Rattle.mount_links.proofs.on_both.put_parts.Goals as goal

pub returns-in_ok-push-in-Looked-2-clause-own : goal.returns-in_ok-push-in-Looked-2-clause-own
returns-in_ok-push-in-Looked-2-clause-own c =
    let old = c.args.both.now.own in
    c.in_ok-push-in-Looked-2.ensures.appended
    ∙ ap (λ l. l ++ (c.args.placed.0, c.args.placed.1) ∷ [])
    (c.in_ok-push-in-Looked.ensures.appended ∙ ap (λ e. old ++ (c.in-Looked.place, e) ∷ []) c.in_ok-look-in-Looked.ensures)
    ∙ append_assoc old _ _
    ∙ ap (λ s. old ++ own_part logged_load s c.args.placed) (sym c.in-Looked.is)
