-- What a session makes of the wraps in a policy's record.
use Rattle.std.specs.Prelude.{◌++◌, List, ℕ, [], ◌∷◌, Option, Some, None, Result, Ok, Err, ⊤}
use Rattle.protector_meta.specs.declared.policy_file.PolicyFile.{PolicyFile}
use Rattle.protector_meta.specs.declared.wraps.Wrap.{Wrap}
use Rattle.protector_meta.specs.declared.wraps.WrapFault.{WrapFault}
use Rattle.protector_meta.specs.Wraps.{adding_fault, dropping_fault, wraps_without}
use Rattle.reply_text.specs.declared.outcome.Outcome.{Outcome}
use Rattle.session_records.specs.Outcomes.{outcome_of_wraps}

-- a value, unless a list of wraps refuses
abbrev pub unless_refused : {A : Type 0} → Option WrapFault → A → Result A Outcome
unless_refused None value = Ok value
unless_refused (Some refused) value = Err (outcome_of_wraps refused)

-- whether the protector of this label can be given a wrap
abbrev pub wrap_space_for : List ℕ → List Wrap → Result ⊤ Outcome
wrap_space_for protector wraps = unless_refused (adding_fault protector wraps) tt

-- a policy with one wrap more
abbrev pub policy_with : Wrap → PolicyFile → PolicyFile
policy_with wrap policy = record policy { wraps = policy.wraps ++ wrap ∷ [] }

-- a policy that the protector of this label opens no longer
abbrev pub policy_without : List ℕ → PolicyFile → Result PolicyFile Outcome
policy_without protector policy =
    unless_refused (dropping_fault protector policy.wraps)
    (record policy { wraps = wraps_without protector policy.wraps })
