-- What holds of every mount that a history leaves, part by part.
use Rattle.std.specs.Prelude.{◌≡◌, ℕ, ◌≤◌, true, List, length, Some, is_some}
use Rattle.std.specs.List.{IsDistinct}
use Rattle.std.specs.Map.{keys_of}
use Rattle.std.specs.Str.{bytes_eq}
use Rattle.policy_ctx.specs.declared.policy.KeyId.{KeyId}
use Rattle.fsc_keys.specs.Keys.{key_id_of}
use Rattle.user_claims.specs.Claims.{ClaimSet, has_claim}
use Rattle.user_claims.specs.ClaimCounts.{count_of_user}
use Rattle.user_claims.specs.declared.claims.TheConstants.{MAX_CLAIMS}
use Rattle.meta_files.specs.Records.{RecordList, record_of}
use Rattle.meta_files.specs.declared.files.TheConstants.{MAX_RECORDS, MAX_RECORD_BYTES, LAST_VERSION}
use Rattle.mount_model.specs.PlainMount.{PlainMount, Raws, raw_in}
use Rattle.mount_model.specs.KeyAnswers.{is_raw_key}
use Rattle.mount_model.specs.SoundNodes.{HasNodes}
use Rattle.mount_model.specs.SoundHandles.{HasHandles}

-- ---- claims and raw keys

pub record HasKeys (claims : ClaimSet) (raws : Raws) : Type 0 where
  -- a user has at most 64 claims
  pub quota : (uid : ℕ) → count_of_user claims uid ≤ MAX_CLAIMS
  -- each claim is on a key that was added
  pub added : (id : KeyId) (uid : ℕ) → has_claim claims id uid ≡ true → is_some (raw_in raws id) ≡ true
  -- each raw key has 32 to 64 bytes
  pub sizes : (id : KeyId) (raw : List ℕ) → raw_in raws id ≡ Some raw → is_raw_key raw ≡ true
  -- and is stored under its own identifier
  pub filed : (id : KeyId) (raw : List ℕ) → raw_in raws id ≡ Some raw → key_id_of raw ≡ id

-- ---- records

-- a version above 0, and at most 8,192 bytes
pub record IsRecord (kept : ℕ × List ℕ) : Type 0 where
  pub stored : 1 ≤ kept.0
  pub last : kept.0 ≤ LAST_VERSION
  pub size : length kept.1 ≤ MAX_RECORD_BYTES

pub record HasRecords (records : RecordList) : Type 0 where
  pub few : length records ≤ MAX_RECORDS
  pub distinct : IsDistinct bytes_eq (keys_of records)
  pub each : (name : List ℕ) (kept : ℕ × List ℕ) → record_of records name ≡ Some kept → IsRecord kept

-- ---- the whole

pub record IsWellFormed (m : PlainMount) : Type 0 where
  pub keys : HasKeys m.claims m.raws
  pub nodes : HasNodes m.raws m.nodes m.next
  pub handles : HasHandles m.nodes m.handles m.opened
  pub records : HasRecords m.records
