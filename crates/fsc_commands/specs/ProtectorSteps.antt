-- A session's work with protectors.
use Rattle.std.specs.Prelude.{ℕ, List}
use Rattle.protector_meta.specs.LinkText.{link_text}
use Rattle.protector_meta.specs.ProtectorText.{protector_text}
use Rattle.script_words.specs.declared.secrets.Secret.{Secret}
use Rattle.script_words.specs.declared.secrets.NewSecret.{NewSecret}
use Rattle.script_words.specs.declared.record_words.Record.TheVariants.{Protector}
use Rattle.session_records.specs.DerivedRecords.{new_protector, protector_with_secret}
use Rattle.fsc_commands.specs.CommandSteps.{CommandSteps}
use Rattle.fsc_commands.specs.Opening.{opening_protector, storing}

-- a protector is made of derived values; no record of its name is expected
abbrev pub protector_steps : List ℕ → ℕ → ℕ → ℕ → List ℕ → NewSecret → CommandSteps
protector_steps seed caller uid number label new =
    storing caller uid (Protector label) 0 (protector_text (new_protector seed caller number label new))

-- a protector that its secret opens gets another secret; its key stays
abbrev pub protector_change_steps : List ℕ → ℕ → ℕ → ℕ → List ℕ → Secret → NewSecret → CommandSteps
protector_change_steps seed caller uid number label secret new =
    opening_protector caller uid label secret
    (λ opened. storing caller uid (Protector label) opened.loaded.version
    (protector_text (protector_with_secret seed caller number opened.loaded.protector opened.key new)))

-- a protector that is on another mount is linked: the link is stored as its record, and no record is
-- expected there
abbrev pub protector_link_steps : ℕ → ℕ → List ℕ → CommandSteps
protector_link_steps caller uid label = storing caller uid (Protector label) 0 (link_text label)
