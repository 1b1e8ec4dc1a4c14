-- A session's work with the key of a policy: it is made, added, or given to a further protector.
use Rattle.std.specs.Prelude.{ℕ, List, Option}
use Rattle.mount_model.specs.declared.call.Op.TheVariants.{AddKey}
use Rattle.protector_meta.specs.PolicyText.{policy_text}
use Rattle.script_words.specs.declared.secrets.Secret.{Secret}
use Rattle.script_lang.specs.declared.verb.Options.{Options as SaidOptions}
use Rattle.script_words.specs.declared.record_words.Record.TheVariants.{Policy}
use Rattle.session_records.specs.declared.loading.LoadedPolicy.{LoadedPolicy}
use Rattle.session_records.specs.declared.outcomes.ExpectedReply.TheVariants as wanted
use Rattle.session_records.specs.DerivedRecords.{new_policy, policy_with_wrap}
use Rattle.session_records.specs.PolicyRecords.{wrap_space_for}
use Rattle.fsc_commands.specs.CommandSteps.{CommandSteps, when_ok, last_call}
use Rattle.fsc_commands.specs.Opening.{opening_policy, opening_protector, storing}

-- the key of a policy is added; a protector with this key opens the policy
abbrev pub unlock_through : ℕ → ℕ → List ℕ → List ℕ → List ℕ → CommandSteps
unlock_through caller uid label protector key =
    opening_policy caller uid label protector key
    (λ opened. last_call caller uid (AddKey opened.key) wanted.Added)

-- the key of a policy that a protector opens is added
abbrev pub unlock_steps : ℕ → ℕ → List ℕ → List ℕ → Secret → CommandSteps
unlock_steps caller uid label protector secret =
    opening_protector caller uid protector secret
    (λ opener. unlock_through caller uid label protector opener.key)

-- a policy is made that a protector opens; no record of its name is expected
abbrev pub policy_new_steps : List ℕ → ℕ → ℕ → ℕ → List ℕ → List ℕ → Secret → Option SaidOptions
    → CommandSteps
policy_new_steps seed caller uid number label protector secret options =
    opening_protector caller uid protector secret
    (λ opener. storing caller uid (Policy label) 0
    (policy_text (new_policy seed caller number label protector options opener.key)))

-- a further protector opens a policy with this key
abbrev pub add_to : List ℕ → ℕ → ℕ → ℕ → List ℕ → LoadedPolicy → List ℕ → List ℕ → Secret → CommandSteps
add_to seed caller uid number label loaded policy_key added added_secret =
    opening_protector caller uid added added_secret
    (λ adding. storing caller uid (Policy label) loaded.version
    (policy_text (policy_with_wrap seed caller number policy_key added adding.key loaded.policy)))

-- a further protector opens a policy that one with this key opens
abbrev pub add_through : List ℕ → ℕ → ℕ → ℕ → List ℕ → List ℕ → List ℕ → List ℕ → Secret → CommandSteps
add_through seed caller uid number label protector key added added_secret =
    opening_policy caller uid label protector key
    (λ opened. when_ok (wrap_space_for added opened.loaded.policy.wraps)
    (λ room. add_to seed caller uid number label opened.loaded opened.key added added_secret))

-- a further protector opens a policy, whose key comes through another one
abbrev pub policy_add_steps : List ℕ → ℕ → ℕ → ℕ → List ℕ → List ℕ → Secret → List ℕ → Secret → CommandSteps
policy_add_steps seed caller uid number label protector secret added added_secret =
    opening_protector caller uid protector secret
    (λ opener. add_through seed caller uid number label protector opener.key added added_secret)
