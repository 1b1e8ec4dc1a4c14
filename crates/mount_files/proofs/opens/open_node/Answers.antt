use Rattle.std.proofs.Common.{sym}
use Rattle.mount_files.proofs.OpenStands.{walked_there, at_given, at_denied, opened_after}
use Rattle.mount_state.proofs.PassedEntryLemmas.{same_names}
use Rattle.mount_files.proofs.opens.open_node.Goals as goal

pub returns-in-Ok-clause-represents : goal.returns-in-Ok-clause-represents
returns-in-Ok-clause-represents g c = λ m st.
    let led = c.in-Ok.ensures.value m st in
    at_given m c.args.caller c.args.path.now c.in-Ok.node led c.open_at.result _
    (c.open_at.ensures.represents m (c.in-Ok.ensures.represents m st) (walked_there m c.args.path.now c.in-Ok.node st.well (sym led)))

pub returns-in-Ok-clause-denied : goal.returns-in-Ok-clause-denied
returns-in-Ok-clause-denied g c = λ m st denied.
    let led = c.in-Ok.ensures.value m st in
    at_denied m c.args.caller c.args.path.now c.in-Ok.node led c.open_at.result
    (c.open_at.ensures.denied m (c.in-Ok.ensures.represents m st) (walked_there m c.args.path.now c.in-Ok.node st.well (sym led))) denied

pub returns-in-Ok-clause-opened : goal.returns-in-Ok-clause-opened
returns-in-Ok-clause-opened g c = λ fine.
    opened_after c.args.state.now _ _ c.args.caller c.open_at.result c.in-Ok.ensures.same (c.open_at.ensures.opened fine)

pub returns-in-Ok-clause-brought : goal.returns-in-Ok-clause-brought
returns-in-Ok-clause-brought g c = λ m st pair is.
    c.in-Ok.ensures.brought m st pair (same_names _ _ c.open_at.ensures.names pair is)
