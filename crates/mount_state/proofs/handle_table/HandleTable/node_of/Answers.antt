use Rattle.std.proofs.Common.{ap, ◌∙◌}
use Rattle.mount_model.specs.OpenHandles.{node_of}
use Rattle.mount_state.specs.Handles.{Handles}
use Rattle.mount_state.proofs.handle_table.HandleTable.node_of.Goals as goal

pub returns : goal.returns
returns c =
    c.copied.ensures ∙ c.get.ensures.value
    ∙ (c.self.invariant.indexed c.args.caller c.args.number ∙ ap (λ (v : Handles). node_of v.live c.args.caller c.args.number) c.self.view_is)
