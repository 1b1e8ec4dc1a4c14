-- The parts of a session's work: a record is loaded, and may be opened; and the last part stores one.
use Rattle.std.specs.Prelude.{ℕ, List}
use Rattle.mount_model.specs.declared.call.Op.TheVariants.{MetaLoad, MetaStore}
use Rattle.script_words.specs.Records.{record_name}
use Rattle.script_words.specs.declared.secrets.Secret.{Secret}
use Rattle.script_words.specs.declared.record_words.Record.{Record}
use Rattle.script_words.specs.declared.record_words.Record.TheVariants.{Protector, Policy}
use Rattle.session_records.specs.declared.loading.LoadedPolicy.{LoadedPolicy}
use Rattle.session_records.specs.declared.opening.OpenedPolicy.{OpenedPolicy}
use Rattle.session_records.specs.declared.opening.OpenedProtector.{OpenedProtector}
use Rattle.session_records.specs.declared.outcomes.ExpectedReply.TheVariants as wanted
use Rattle.session_records.specs.Records.{unwrapped_protector, opened_policy}
use Rattle.session_records.specs.LoadedRecords.{loaded_policy}
use Rattle.fsc_commands.specs.CommandSteps.{CommandSteps, asking, when_ok, last_call}

-- the policy of this label is loaded
abbrev pub loading_policy : ℕ → ℕ → List ℕ → (LoadedPolicy → CommandSteps) → CommandSteps
loading_policy caller uid label next =
    asking caller uid (MetaLoad (record_name (Policy label)))
    (λ reply. when_ok (loaded_policy label reply) next)

-- the protector of this label is loaded, and opened with a secret
abbrev pub opening_protector : ℕ → ℕ → List ℕ → Secret → (OpenedProtector → CommandSteps) → CommandSteps
opening_protector caller uid label secret next =
    asking caller uid (MetaLoad (record_name (Protector label)))
    (λ reply. when_ok (unwrapped_protector label secret reply) next)

-- the policy of this label is loaded, and opened through the protector of another label, with its key
abbrev pub opening_policy : ℕ → ℕ → List ℕ → List ℕ → List ℕ → (OpenedPolicy → CommandSteps) → CommandSteps
opening_policy caller uid label protector key next =
    asking caller uid (MetaLoad (record_name (Policy label)))
    (λ reply. when_ok (opened_policy label protector key reply) next)

-- the last call stores a record in place of the expected version; 0 means none
abbrev pub storing : ℕ → ℕ → Record → ℕ → List ℕ → CommandSteps
storing caller uid stored expected text =
    last_call caller uid (MetaStore (record_name stored) expected text) wanted.Stored
