-- The claims that a history leaves, by each call with its caller, and which calls were refused.
use Rattle.std.specs.Prelude.{ℕ, Bool, true, false, [], ◌∷◌, if◌then◌else◌}
use Rattle.fsc_keys.specs.Keys.{key_id_of}
use Rattle.user_claims.specs.Claims.{ClaimSet, no_claims, with_claim, without_claim, without_id}
use Rattle.mount_model.specs.declared.call.Op.{Op}
use Rattle.mount_model.specs.declared.call.Op.TheVariants.{AddKey, RemoveKey, RemoveKeyAll}
use Rattle.mount_model.specs.declared.reply.Reply.{Reply}
use Rattle.mount_model.specs.declared.reply.Reply.TheVariants.{Refused}
use Rattle.mount_model.specs.History.{MountEntry, History}

abbrev pub is_refused : Reply → Bool
is_refused (Refused refusal) = true
is_refused other = false

-- a user's operation makes a claim, removes one, removes all on a key, or changes no claims
abbrev pub claims_after_op : ClaimSet → ℕ → Op → ClaimSet
claims_after_op claims uid (AddKey raw) = with_claim claims (key_id_of raw) uid
claims_after_op claims uid (RemoveKey id) = without_claim claims id uid
claims_after_op claims uid (RemoveKeyAll id) = without_id claims id
claims_after_op claims uid other = claims

abbrev pub claims_after_entry : ClaimSet → MountEntry → ClaimSet
claims_after_entry claims e
    = if is_refused e.reply then claims else claims_after_op claims e.call.uid e.call.op

abbrev pub claims_from : ClaimSet → History → ClaimSet
claims_from claims [] = claims
claims_from claims (e ∷ es) = claims_from (claims_after_entry claims e) es

-- the claims that a history leaves
abbrev pub claims_after : History → ClaimSet
claims_after history = claims_from no_claims history
