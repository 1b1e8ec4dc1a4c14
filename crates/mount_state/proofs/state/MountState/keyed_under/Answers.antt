use Rattle.std.proofs.Common.{◌||◌, sym, ap, ◌∙◌}
use Rattle.policy_ctx.specs.declared.policy.KeyId.{KeyId}
use Rattle.user_claims.specs.ClaimCounts.{is_present}
use Rattle.mount_model.specs.OpenHandles.{has_handle}
use Rattle.mount_state.proofs.UserLemmas.{pins_tell}
use Rattle.mount_state.proofs.state.MountState.keyed_under.Goals as goal

pub returns-else-is_present : goal.returns-else-is_present
returns-else-is_present c =
    let s = c.args.self.now in
    pins_tell s.handles.live c.args.node c.pins.result (c.pins.ensures ∙ s.forgets.pins.pinned c.args.node)
    ∙ sym (ap (λ b. b || has_handle s.handles.live c.args.node)
    (ap (λ (id : KeyId). is_present s.ring.claims id) (sym c.id_in.ensures.read) ∙ (sym c.is_present.ensures.claimed ∙ c.if-is_present.false)))
