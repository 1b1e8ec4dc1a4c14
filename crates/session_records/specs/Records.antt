-- How a record opens, by the reply to loading it.
use Rattle.std.specs.Prelude.{ℕ, ◌≡◌, List, Result, Ok, Err}
use Rattle.mount_model.specs.declared.reply.Reply.{Reply}
use Rattle.script_words.specs.declared.secrets.Secret.{Secret}
use Rattle.script_words.specs.declared.secrets.Secret.TheVariants.{Raw}
use Rattle.reply_text.specs.declared.outcome.Outcome.{Outcome}
use Rattle.reply_text.specs.declared.outcome.Outcome.TheVariants.{WrongKind}
use Rattle.session_records.specs.declared.loading.LoadedPolicy.{LoadedPolicy}
use Rattle.session_records.specs.declared.loading.LoadedProtector.{LoadedProtector}
use Rattle.session_records.specs.declared.opening.OpenedPolicy.{OpenedPolicy}
use Rattle.session_records.specs.declared.opening.OpenedProtector.{OpenedProtector}
use Rattle.session_records.specs.LoadedRecords.{loaded_policy, loaded_protector}
use Rattle.session_records.specs.RecordKeys.{IsStretched, wrapping_key, protector_key, policy_key}

-- ---- a protector opened by a secret

-- with its key
abbrev pub protector_with_key : LoadedProtector → Result (List ℕ) Outcome → Result OpenedProtector Outcome
protector_with_key loaded (Err outcome) = Err outcome
protector_with_key loaded (Ok key) = Ok (record { loaded = loaded; key = key })

-- under a wrapping key
abbrev pub protector_under : LoadedProtector → Result (List ℕ) Outcome → Result OpenedProtector Outcome
protector_under loaded (Err outcome) = Err outcome
protector_under loaded (Ok wrapping) = protector_with_key loaded (protector_key loaded.protector wrapping)

-- by a secret, if it was loaded
abbrev pub protector_by : Secret → Result LoadedProtector Outcome → Result OpenedProtector Outcome
protector_by secret (Err outcome) = Err outcome
protector_by secret (Ok loaded) = protector_under loaded (wrapping_key secret loaded.protector.kind)

-- by the reply to loading its record
abbrev pub unwrapped_protector : List ℕ → Secret → Reply → Result OpenedProtector Outcome
unwrapped_protector label secret reply = protector_by secret (loaded_protector label reply)

-- the record is a protector of this label, and the secret a passphrase that is stretched for it
abbrev pub OpensByStretching : List ℕ → Secret → Reply → Type 0
OpensByStretching label secret reply =
    (loaded : LoadedProtector)
    × ((loaded_protector label reply ≡ Ok loaded) × IsStretched secret loaded.protector.kind)

-- nothing is stretched for a raw secret
abbrev pub RawSecretsAreNotStretched : Type 0
RawSecretsAreNotStretched =
    (label raw : List ℕ) (reply : Reply) → ¬ OpensByStretching label (Raw raw) reply

-- nor for a protector of another kind than the secret
abbrev pub OtherKindsAreNotStretched : Type 0
OtherKindsAreNotStretched =
    (label : List ℕ) (secret : Secret) (reply : Reply)
    → unwrapped_protector label secret reply ≡ Err WrongKind → ¬ OpensByStretching label secret reply

-- ---- a policy opened through a protector

abbrev pub policy_with_key : LoadedPolicy → Result (List ℕ) Outcome → Result OpenedPolicy Outcome
policy_with_key loaded (Err outcome) = Err outcome
policy_with_key loaded (Ok key) = Ok (record { loaded = loaded; key = key })

-- through the protector of this label with this key, if it was loaded
abbrev pub policy_by : List ℕ → List ℕ → Result LoadedPolicy Outcome → Result OpenedPolicy Outcome
policy_by protector key (Err outcome) = Err outcome
policy_by protector key (Ok loaded) = policy_with_key loaded (policy_key loaded.policy protector key)

-- by the reply to loading its record
abbrev pub opened_policy : List ℕ → List ℕ → List ℕ → Reply → Result OpenedPolicy Outcome
opened_policy label protector key reply = policy_by protector key (loaded_policy label reply)
