-- What the reply to loading a record makes of it.
use Rattle.std.specs.Prelude.{ℕ, List, Result, Ok, Err, if◌then◌else◌}
use Rattle.std.specs.Str.{bytes_eq}
use Rattle.mount_model.specs.declared.reply.Reply.{Reply}
use Rattle.mount_model.specs.declared.reply.Reply.TheVariants.{Held}
use Rattle.protector_meta.specs.declared.fault.MetaFault.{MetaFault}
use Rattle.protector_meta.specs.declared.policy_file.PolicyFile.{PolicyFile}
use Rattle.protector_meta.specs.declared.protector.Protector.{Protector}
use Rattle.protector_meta.specs.PolicyReading.{policy_read}
use Rattle.protector_meta.specs.ProtectorReading.{protector_read}
use Rattle.reply_text.specs.declared.outcome.Outcome.{Outcome}
use Rattle.reply_text.specs.declared.outcome.Outcome.TheVariants.{BadRecord}
use Rattle.session_records.specs.declared.loading.LoadedPolicy.{LoadedPolicy}
use Rattle.session_records.specs.declared.loading.LoadedProtector.{LoadedProtector}
use Rattle.session_records.specs.Outcomes.{outcome_of_other}

-- a policy that a text was read as, if it has this name
abbrev pub checked_policy : List ℕ → ℕ → Result PolicyFile MetaFault → Result LoadedPolicy Outcome
checked_policy label version (Err fault) = Err BadRecord
checked_policy label version (Ok policy) =
    if bytes_eq policy.name label then Ok (record { version = version; policy = policy }) else Err BadRecord

-- the policy of this name, by the reply to loading its record
abbrev pub loaded_policy : List ℕ → Reply → Result LoadedPolicy Outcome
loaded_policy label (Held version bytes) = checked_policy label version (policy_read bytes)
loaded_policy label other = Err (outcome_of_other other)

-- the same of a protector
abbrev pub checked_protector : List ℕ → ℕ → Result Protector MetaFault → Result LoadedProtector Outcome
checked_protector label version (Err fault) = Err BadRecord
checked_protector label version (Ok protector) =
    if bytes_eq protector.name label then Ok (record { version = version; protector = protector })
    else Err BadRecord

abbrev pub loaded_protector : List ℕ → Reply → Result LoadedProtector Outcome
loaded_protector label (Held version bytes) = checked_protector label version (protector_read bytes)
loaded_protector label other = Err (outcome_of_other other)
