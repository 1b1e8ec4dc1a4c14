-- The key in a record: of a protector by a secret, of a policy by the key of a protector.
use Rattle.std.specs.Prelude.{⊤, ℕ, List, [], Option, Some, None, Result, Ok, Err, if◌then◌else◌}
use Rattle.std.specs.Str.{bytes_eq}
use Rattle.policy_ctx.specs.declared.policy.KeyId.{KeyId}
use Rattle.policy_ctx.specs.KeyIds.{same_id}
use Rattle.fsc_keys.specs.Keys.{key_id_of, descriptor_of}
use Rattle.argon_kdf.specs.Argon2id.{argon2id_tag}
use Rattle.key_wrap.specs.Wrapping.{opened_secret}
use Rattle.protector_meta.specs.declared.policy_file.PolicyFile.{PolicyFile}
use Rattle.protector_meta.specs.declared.protector.Protector.{Protector}
use Rattle.protector_meta.specs.declared.protector.ProtectorKind.{ProtectorKind}
use Rattle.protector_meta.specs.declared.protector.ProtectorKind.TheVariants as kind
use Rattle.protector_meta.specs.declared.wraps.Wrap.{Wrap}
use Rattle.protector_meta.specs.Wraps.{wrap_for}
use Rattle.script_words.specs.declared.secrets.Secret.{Secret}
use Rattle.script_words.specs.declared.secrets.Secret.TheVariants as secret
use Rattle.reply_text.specs.declared.outcome.Outcome.{Outcome}
use Rattle.reply_text.specs.declared.outcome.Outcome.TheVariants.{BadRecord, WrongKind, WrongKey, NotListed}

-- the wrapping key that a secret gives if the protector is of its kind: the secret itself, or what the
-- passphrase is stretched to
abbrev pub wrapping_key : Secret → ProtectorKind → Result (List ℕ) Outcome
wrapping_key (secret.Raw raw) kind.Raw = Ok raw
wrapping_key (secret.Pass passphrase) (kind.Pass stretching) =
    Ok (argon2id_tag stretching.0 passphrase stretching.1 [] [])
wrapping_key other kind = Err WrongKind

-- the secret is a passphrase, and the protector's kind one of passphrases: stretching happens only then
abbrev pub IsStretched : Secret → ProtectorKind → Type 0
IsStretched (secret.Pass passphrase) (kind.Pass stretching) = ⊤
IsStretched other kind = ⊥

-- a protector's key that a wrapping key opened, if it has the descriptor in the record
abbrev pub checked_protector_key : List ℕ → Option (List ℕ) → Result (List ℕ) Outcome
checked_protector_key descriptor None = Err WrongKey
checked_protector_key descriptor (Some key) =
    if bytes_eq (descriptor_of key) descriptor then Ok key else Err BadRecord

-- the key of a protector, under a wrapping key
abbrev pub protector_key : Protector → List ℕ → Result (List ℕ) Outcome
protector_key protector wrapping =
    checked_protector_key protector.descriptor
    (opened_secret wrapping protector.iv protector.key protector.tag)

-- a policy's key that a protector's key opened, if it has the identifier in the record
abbrev pub checked_policy_key : KeyId → Option (List ℕ) → Result (List ℕ) Outcome
checked_policy_key id None = Err WrongKey
checked_policy_key id (Some key) = if same_id (key_id_of key) id then Ok key else Err BadRecord

-- the key of a policy, by a wrap of it and that protector's key
abbrev pub key_in_wrap : KeyId → List ℕ → Option Wrap → Result (List ℕ) Outcome
key_in_wrap id key None = Err NotListed
key_in_wrap id key (Some wrap) = checked_policy_key id (opened_secret key wrap.iv wrap.key wrap.tag)

-- the key of a policy, through the protector of this label with this key
abbrev pub policy_key : PolicyFile → List ℕ → List ℕ → Result (List ℕ) Outcome
policy_key policy label key = key_in_wrap policy.id key (wrap_for label policy.wraps)
