-- The histories that may reach a mount.
use Rattle.std.specs.Prelude.{◌≡◌}
use Rattle.mount_model.specs.History.{History, mount_after}
use Rattle.mount_model.specs.ClaimHistory.{claims_after}
use Rattle.mount_model.specs.Lawful.{KeysAgree, IsLawful}
use Rattle.mount_state.specs.Represents.{Represents}
use Rattle.mount_state.specs.declared.state.MountState.{MountState}

-- the history is lawful; the claims are those that it leaves, whatever raw keys were added; and if these
-- agree, the state represents the mount that it leaves
pub record IsStateAfter (history : History) (state : MountState) : Type 0 where
  pub lawful : IsLawful history
  pub claims : state.ring.claims ≡ claims_after history
  pub represents : KeysAgree history → Represents state (mount_after history)
