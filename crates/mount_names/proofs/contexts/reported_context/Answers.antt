use Rattle.std.proofs.Common.{sym, ap, ◌∙◌}
use Rattle.mount_state.specs.Contexts as disk
use Rattle.mount_names.proofs.ReadLemmas.{reported_context}
use Rattle.mount_names.proofs.contexts.reported_context.Goals as goal

pub returns : goal.returns
returns c = λ m st.
    let s = c.args.state.now in
    let here = ap disk.context_on_disk c.requires in
    reported_context s.disk s.next_node m st.tree c.args.number st.well c.context_of.result
    (λ context sized is. c.context_of.ensures.read context sized (sym here ∙ is))
    (λ none. c.context_of.ensures.none (sym here ∙ none))
