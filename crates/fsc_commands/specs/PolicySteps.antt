-- A session's work with the record of a policy alone: no key is opened.
use Rattle.std.specs.Prelude.{ℕ, List, Option}
use Rattle.policy_ctx.specs.declared.policy.KeyId.{KeyId}
use Rattle.policy_ctx.specs.Policy.{policy_bytes}
use Rattle.mount_model.specs.declared.call.Op.{Op}
use Rattle.mount_model.specs.declared.call.Op.TheVariants.{RemoveKey, KeyStatus, SetPolicy}
use Rattle.protector_meta.specs.PolicyText.{policy_text}
use Rattle.script_words.specs.declared.path.ScriptPart.{ScriptPart}
use Rattle.script_words.specs.declared.record_words.Record.TheVariants.{Policy}
use Rattle.script_lang.specs.declared.verb.Settings.{Settings}
use Rattle.session_records.specs.declared.outcomes.ExpectedReply.{ExpectedReply}
use Rattle.session_records.specs.declared.outcomes.ExpectedReply.TheVariants as wanted
use Rattle.session_records.specs.Derivations.{derived_nonce}
use Rattle.session_records.specs.PolicyRecords.{policy_without}
use Rattle.session_records.specs.PolicyOptions.{node_policy, with_options}
use Rattle.fsc_commands.specs.declared.policies.AskedOfKey.{AskedOfKey}
use Rattle.fsc_commands.specs.declared.policies.AskedOfKey.TheVariants.{Removal, Status}
use Rattle.fsc_commands.specs.CommandSteps.{CommandSteps, when_ok, last_call}
use Rattle.fsc_commands.specs.Opening.{loading_policy, storing}
use Rattle.fsc_commands.specs.Stars.{resolved_path}

-- the call that is made for a policy's key, and the expected reply
abbrev pub key_op : AskedOfKey → KeyId → Op
key_op Removal id = RemoveKey id
key_op Status id = KeyStatus id

abbrev pub expected_key_reply : AskedOfKey → ExpectedReply
expected_key_reply Removal = wanted.Removed
expected_key_reply Status = wanted.Status

-- the claim to a policy's key is removed, or its status is returned
abbrev pub key_steps : AskedOfKey → ℕ → ℕ → List ℕ → CommandSteps
key_steps asked caller uid label =
    loading_policy caller uid label
    (λ loaded. last_call caller uid (key_op asked loaded.policy.id) (expected_key_reply asked))

-- a protector's wrap is dropped
abbrev pub policy_drop_steps : ℕ → ℕ → List ℕ → List ℕ → CommandSteps
policy_drop_steps caller uid label protector =
    loading_policy caller uid label
    (λ loaded. when_ok (policy_without protector loaded.policy)
    (λ policy. storing caller uid (Policy label) loaded.version (policy_text policy)))

-- a record of version 1 is stored as one of version 2
abbrev pub migrate_steps : ℕ → ℕ → List ℕ → CommandSteps
migrate_steps caller uid label =
    loading_policy caller uid label
    (λ loaded. when_ok (with_options loaded.policy loaded.policy.options)
    (λ policy. storing caller uid (Policy label) loaded.version (policy_text policy)))

-- a directory is encrypted from now on, under a derived nonce
abbrev pub encrypt_steps : List ℕ → ℕ → ℕ → ℕ → List (List ℕ) → List ScriptPart → List ℕ → Option Settings
    → CommandSteps
encrypt_steps seed caller uid number names path label settings =
    loading_policy caller uid label
    (λ loaded. last_call caller uid (SetPolicy (resolved_path names path)
    (policy_bytes (node_policy loaded.policy settings)) (derived_nonce seed caller number)) wanted.Done)
