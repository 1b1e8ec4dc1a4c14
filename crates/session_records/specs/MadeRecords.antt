-- What a session makes opens again, from the text that is stored.
use Rattle.std.specs.Prelude.{◌≡◌, ℕ, List, Some, Ok}
use Rattle.fsc_keys.specs.Keys.{key_id_of}
use Rattle.mount_model.specs.declared.reply.Reply.{Reply}
use Rattle.mount_model.specs.declared.reply.Reply.TheVariants.{Held}
use Rattle.protector_meta.specs.declared.policy_file.Options.{Options}
use Rattle.protector_meta.specs.declared.policy_file.PolicyFile.{PolicyFile}
use Rattle.protector_meta.specs.declared.protector.Protector.{Protector}
use Rattle.protector_meta.specs.PolicyRecords.{IsPolicyFile}
use Rattle.protector_meta.specs.PolicyText.{policy_text}
use Rattle.protector_meta.specs.ProtectorText.{IsProtector, protector_text}
use Rattle.script_words.specs.declared.secrets.NewSecret.{NewSecret}
use Rattle.script_words.specs.declared.secrets.NewSecret.TheVariants as new
use Rattle.script_words.specs.declared.secrets.Secret.{Secret}
use Rattle.script_words.specs.declared.secrets.Secret.TheVariants as old
use Rattle.session_records.specs.declared.opening.OpenedPolicy.{OpenedPolicy}
use Rattle.session_records.specs.declared.opening.OpenedProtector.{OpenedProtector}
use Rattle.session_records.specs.NewPolicies.{made_policy, made_wrap}
use Rattle.session_records.specs.NewProtectors.{made_protector}
use Rattle.session_records.specs.Records.{opened_policy, unwrapped_protector}
use Rattle.session_records.specs.RecordKeys.{key_in_wrap}

-- the secret of a later command that was this new secret once
abbrev pub secret_again : NewSecret → Secret
secret_again (new.Raw raw) = old.Raw raw
secret_again (new.Pass costs passphrase) = old.Pass passphrase

-- a protector that was loaded at a version, opened to a key
abbrev pub opened_protector : ℕ → Protector → List ℕ → OpenedProtector
opened_protector version protector key =
    record { loaded = record { version = version; protector = protector }; key = key }

-- a new protector whose record is stored opens with its secret, to its key
abbrev pub MadeProtectorsOpen : Type 0
MadeProtectorsOpen =
    (version : ℕ) (label key : List ℕ) (secret : NewSecret) (iv salt : List ℕ)
    → (let made : Protector = made_protector label key secret iv salt in
    IsProtector made → unwrapped_protector label (secret_again secret) (Held version (protector_text made))
    ≡ Ok (opened_protector version made key))

-- a new policy whose record is stored opens through the protector under whose key its own was wrapped
abbrev pub MadePoliciesOpen : Type 0
MadePoliciesOpen =
    (version : ℕ) (label protector key iv policy_key : List ℕ) (options : Options)
    → (let made : PolicyFile = made_policy label policy_key options (made_wrap protector key iv policy_key) in
    IsPolicyFile made → opened_policy label protector key (Held version (policy_text made))
    ≡ Ok (record { loaded = record { version = version; policy = made }; key = policy_key }))

-- a policy's key opens with the key of the protector under which it was wrapped
abbrev pub MadeWrapsOpen : Type 0
MadeWrapsOpen =
    (protector key iv policy_key : List ℕ)
    → key_in_wrap (key_id_of policy_key) key (Some (made_wrap protector key iv policy_key)) ≡ Ok policy_key

-- the key of a policy that was opened has the identifier in its record
abbrev pub OpenedPoliciesAreNamed : Type 0
OpenedPoliciesAreNamed =
    (label protector key : List ℕ) (reply : Reply) (opened : OpenedPolicy)
    → opened_policy label protector key reply ≡ Ok opened
    → key_id_of opened.key ≡ opened.loaded.policy.id
