-- The calls that add a key and return its status: what each answers, its refusals in the order in which
-- they are tried, and the mount that it leaves. They are tried by the raw key and the claims alone. In a
-- status `busy` is whether something open needs the key.
use Rattle.std.specs.Prelude.{ℕ, Bool, List, length, not, ◌&&◌, nat_le, if◌then◌else◌}
use Rattle.policy_ctx.specs.declared.policy.KeyId.{KeyId}
use Rattle.fsc_keys.specs.Keys.{key_id_of}
use Rattle.user_claims.specs.Claims.{ClaimSet, has_claim, with_claim}
use Rattle.user_claims.specs.ClaimCounts.{count_of_user, count_of_id}
use Rattle.fsc_keys.specs.declared.raw_key.TheConstants.{MIN_RAW_KEY_BYTES, MAX_RAW_KEY_BYTES}
use Rattle.user_claims.specs.declared.claims.TheConstants.{MAX_CLAIMS}
use Rattle.mount_model.specs.declared.reply.Reply.{Reply}
use Rattle.mount_model.specs.declared.reply.Reply.TheVariants.{Added, Status}
use Rattle.mount_model.specs.declared.reply.Refusal.{Refusal}
use Rattle.mount_model.specs.declared.reply.Refusal.TheVariants.{Quota, Inval}
use Rattle.mount_model.specs.PlainMount.{PlainMount, with_raw}
use Rattle.mount_model.specs.States.{is_busy, key_state_by}
use Rattle.mount_model.specs.AnswerForms.{Answer, refusal_with, unchanged_with}

-- ---- AddKey

-- 32 to 64 bytes
abbrev pub is_raw_key : List ℕ → Bool
is_raw_key raw = nat_le MIN_RAW_KEY_BYTES (length raw) && nat_le (length raw) MAX_RAW_KEY_BYTES

-- the claim is new, and the user has 64
abbrev pub is_over_quota : ClaimSet → KeyId → ℕ → Bool
is_over_quota claims id uid = not (has_claim claims id uid) && nat_le MAX_CLAIMS (count_of_user claims uid)

-- the outcome of a user's claim on a raw key: a refusal, or `due`
abbrev pub adding : {A : Type 0} → (Refusal → A) → A → ClaimSet → ℕ → List ℕ → A
adding refuse due claims uid raw =
    if not (is_raw_key raw) then refuse Inval else
    if is_over_quota claims (key_id_of raw) uid then refuse Quota else
    due

-- the mount in which the user holds this raw key
abbrev pub with_key : PlainMount → ℕ → List ℕ → PlainMount
with_key m uid raw = record m {
  claims = with_claim m.claims (key_id_of raw) uid;
  raws = with_raw m.raws (key_id_of raw) raw;
}

abbrev pub answer_to_added_key : PlainMount → ℕ → List ℕ → Answer
answer_to_added_key m uid raw = record { reply = Added (key_id_of raw); mount = with_key m uid raw }

abbrev pub answer_to_add_key : PlainMount → ℕ → List ℕ → Answer
answer_to_add_key m uid raw = adding (refusal_with m) (answer_to_added_key m uid raw) m.claims uid raw

-- ---- KeyStatus

abbrev pub status_by : ClaimSet → Bool → ℕ → KeyId → Reply
status_by claims busy uid id =
    Status (key_state_by claims busy id) (has_claim claims id uid) (count_of_id claims id)

abbrev pub status_of : PlainMount → ℕ → KeyId → Reply
status_of m uid id = status_by m.claims (is_busy m id) uid id

abbrev pub answer_to_key_status : PlainMount → ℕ → KeyId → Answer
answer_to_key_status m uid id = unchanged_with m (status_of m uid id)
