-- What removals leave of claims, and the status of a key without claims.
use Rattle.std.specs.Prelude.{◌≡◌, ◌≢◌, ℕ, Bool, true, false, ◌&&◌, ◌==◌, if◌then◌else◌}
use Rattle.policy_ctx.specs.declared.policy.KeyId.{KeyId}
use Rattle.policy_ctx.specs.KeyIds.{same_id}
use Rattle.user_claims.specs.Claims.{has_claim}
use Rattle.user_claims.specs.ClaimCounts.{is_present}
use Rattle.mount_model.specs.declared.reply.KeyState.{KeyState}
use Rattle.mount_model.specs.declared.reply.KeyState.TheVariants.{Absent, Incomplete}
use Rattle.mount_model.specs.declared.reply.Reply.TheVariants.{Status}
use Rattle.mount_model.specs.PlainMount.{PlainMount}
use Rattle.mount_model.specs.OpenHandles.{has_handle}
use Rattle.mount_model.specs.States.{is_busy, key_state_of, names_key}
use Rattle.mount_model.specs.KeyAnswers.{answer_to_key_status}
use Rattle.mount_model.specs.RemovalAnswers.{answer_to_remove_key}

-- a removal by one user leaves each claim but that user's on that key
abbrev pub OtherClaimsStay : Type 0
OtherClaimsStay = (m : PlainMount) (uid : ℕ) (id other : KeyId) (user : ℕ)
    → (same_id other id && (user == uid)) ≡ false
    → has_claim (answer_to_remove_key m uid id).mount.claims other user ≡ has_claim m.claims other user

-- the state of a key without claims is Incomplete if an open handle is on a node whose policy names it,
-- else Absent
abbrev pub OpenHandlesKeepKeys : Type 0
OpenHandlesKeepKeys = (m : PlainMount) (id : KeyId) → is_present m.claims id ≡ false
    → key_state_of m id ≡ (if is_busy m id then Incomplete else Absent)

-- while a handle is open on a node whose policy names the key, no status is Absent
abbrev pub OpenHandlesAreReported : Type 0
OpenHandlesAreReported = (m : PlainMount) (n : ℕ) (id : KeyId) → has_handle m.handles n ≡ true
    → names_key m.nodes n id ≡ true → (uid : ℕ) (state : KeyState) (by_self : Bool) (users : ℕ)
    → (answer_to_key_status m uid id).reply ≡ Status state by_self users → state ≢ Absent
