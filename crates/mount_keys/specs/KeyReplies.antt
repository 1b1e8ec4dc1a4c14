-- The replies of the calls on keys, by the claims, the disk and the handles of the state alone.
use Rattle.std.specs.Prelude.{ℕ}
use Rattle.policy_ctx.specs.declared.policy.KeyId.{KeyId}
use Rattle.mount_model.specs.declared.reply.Reply.{Reply}
use Rattle.mount_state.specs.KeyUse.{is_in_use}
use Rattle.mount_state.specs.declared.state.MountState.{MountState}
pub use Rattle.mount_model.specs.KeyReplies.{is_over_quota, add_fault, removal_by, clearing_by, status_by}

abbrev pub reply_of_removal : MountState → ℕ → KeyId → Reply
reply_of_removal s uid id = removal_by s.ring.claims (is_in_use s.disk s.handles.live id) uid id

abbrev pub reply_of_clearing : MountState → ℕ → KeyId → Reply
reply_of_clearing s uid id = clearing_by s.ring.claims (is_in_use s.disk s.handles.live id) uid id

abbrev pub reply_of_status : MountState → ℕ → KeyId → Reply
reply_of_status s uid id = status_by s.ring.claims (is_in_use s.disk s.handles.live id) uid id
