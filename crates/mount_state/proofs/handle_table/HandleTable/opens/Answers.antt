use Rattle.std.proofs.Common.{ap, ◌∙◌}
use Rattle.mount_model.specs.OpenHandles.{opens_of}
use Rattle.mount_state.specs.Handles.{Handles}
use Rattle.mount_state.proofs.HandleLemmas.{opens_seen}
use Rattle.mount_state.proofs.handle_table.HandleTable.opens.Goals as goal

pub returns : goal.returns
returns c = c.count_of.ensures ∙ (opens_seen c.self.inside.opened c.args.caller ∙ ap (λ (v : Handles). opens_of v.opened c.args.caller) c.self.view_is)
