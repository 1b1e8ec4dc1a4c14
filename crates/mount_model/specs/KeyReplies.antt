-- The replies of the calls on keys, which the claims alone determine, whatever raw keys were added: all
-- but whether some open handle needs the key, which is `busy` here.
use Rattle.std.specs.Prelude.{◌≡◌, ℕ, Bool, false, List, Option, Some, None, ◌⊎◌}
use Rattle.policy_ctx.specs.declared.policy.KeyId.{KeyId}
use Rattle.fsc_keys.specs.Keys.{key_id_of}
use Rattle.user_claims.specs.Claims.{ClaimSet, without_claim}
use Rattle.user_claims.specs.ClaimCounts.{is_present}
use Rattle.mount_model.specs.declared.reply.Reply.{Reply}
use Rattle.mount_model.specs.declared.reply.Reply.TheVariants.{Added, Removed, Refused}
use Rattle.mount_model.specs.declared.reply.Refusal.{Refusal}
use Rattle.mount_model.specs.declared.reply.Refusal.TheVariants.{NoMemory}
use Rattle.mount_model.specs.KeyAnswers.{adding}
use Rattle.mount_model.specs.RemovalAnswers.{removing, removing_all, reply_to_removal}
pub use Rattle.mount_model.specs.KeyAnswers.{is_over_quota, status_by}

-- this was the reply, or the call was out of memory
abbrev pub IsReplyOrNoMemory : Reply → Reply → Type 0
IsReplyOrNoMemory told reply = (reply ≡ told) ⊎ (reply ≡ Refused NoMemory)

-- ---- AddKey

-- why the user can't claim the key
abbrev pub add_fault : ClaimSet → ℕ → List ℕ → Option Refusal
add_fault claims uid raw = adding Some None claims uid raw

-- the fault, else the identifier of the key
abbrev pub added_unless : Option Refusal → KeyId → Reply
added_unless None id = Added id
added_unless (Some refusal) id = Refused refusal

abbrev pub addition_by : ClaimSet → ℕ → List ℕ → Reply
addition_by claims uid raw = added_unless (add_fault claims uid raw) (key_id_of raw)

-- ---- RemoveKey and RemoveKeyAll

abbrev pub removal_by : ClaimSet → Bool → ℕ → KeyId → Reply
removal_by claims busy uid id =
    removing Refused (reply_to_removal (is_present (without_claim claims id uid) id) busy) claims busy uid id

abbrev pub clearing_by : ClaimSet → Bool → ℕ → KeyId → Reply
clearing_by claims busy uid id = removing_all Refused (Removed false busy) claims busy uid id
