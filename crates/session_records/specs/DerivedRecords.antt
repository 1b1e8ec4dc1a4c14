-- The records that a command makes with the bytes that it derives.
use Rattle.std.specs.Prelude.{ℕ, List, Option}
use Rattle.protector_meta.specs.declared.policy_file.PolicyFile.{PolicyFile}
use Rattle.protector_meta.specs.declared.protector.Protector.{Protector}
use Rattle.script_words.specs.declared.secrets.NewSecret.{NewSecret}
use Rattle.script_lang.specs.declared.verb.Options.{Options as SaidOptions}
use Rattle.session_records.specs.declared.derivations.Purpose.TheVariants.{NonceOrKey, Iv, Salt}
use Rattle.session_records.specs.Derivations.{first_drawn}
use Rattle.session_records.specs.NewPolicies.{options_or_default, made_policy, made_wrap}
use Rattle.session_records.specs.NewProtectors.{made_protector, changed_protector}
use Rattle.session_records.specs.PolicyRecords.{policy_with}

-- the protector of this label that a new secret opens; its key, the iv and the salt are derived
abbrev pub new_protector : List ℕ → ℕ → ℕ → List ℕ → NewSecret → Protector
new_protector seed caller number label new =
    made_protector label (first_drawn 32 seed caller number NonceOrKey) new
    (first_drawn 16 seed caller number Iv) (first_drawn 16 seed caller number Salt)

-- a protector with this key, wrapped under a new secret's wrapping key; the iv and the salt are derived
abbrev pub protector_with_secret : List ℕ → ℕ → ℕ → Protector → List ℕ → NewSecret → Protector
protector_with_secret seed caller number protector key new =
    changed_protector protector key new
    (first_drawn 16 seed caller number Iv) (first_drawn 16 seed caller number Salt)

-- the policy that is made for a protector with this key: the policy's own key and the iv are derived
abbrev pub new_policy : List ℕ → ℕ → ℕ → List ℕ → List ℕ → Option SaidOptions → List ℕ → PolicyFile
new_policy seed caller number label protector options key =
    made_policy label (first_drawn 64 seed caller number NonceOrKey) (options_or_default options)
    (made_wrap protector key (first_drawn 16 seed caller number Iv)
    (first_drawn 64 seed caller number NonceOrKey))

-- a policy with this key, which a further protector with a key of its own opens too; the iv is derived
abbrev pub policy_with_wrap : List ℕ → ℕ → ℕ → List ℕ → List ℕ → List ℕ → PolicyFile → PolicyFile
policy_with_wrap seed caller number policy_key added key policy =
    policy_with (made_wrap added key (first_drawn 16 seed caller number Iv) policy_key) policy
