-- Nothing is stretched for a raw secret, nor for a protector of another kind than the secret.
use Rattle.std.proofs.Common.{◌≡◌, ℕ, Bool, true, false, List, [], Some, None, Ok, Err, ap, sym, ◌∙◌}
use Rattle.std.specs.Prelude.{Option, if◌then◌else◌}
use Rattle.std.specs.Str.{bytes_eq}
use Rattle.argon_kdf.specs.Argon2id.{argon2id_tag}
use Rattle.fsc_keys.specs.Keys.{descriptor_of}
use Rattle.key_wrap.specs.Wrapping.{opened_secret}
use Rattle.protector_meta.specs.declared.protector.ProtectorKind.{ProtectorKind}
use Rattle.protector_meta.specs.declared.protector.ProtectorKind.TheVariants as kind
use Rattle.script_words.specs.declared.secrets.Secret.{Secret}
use Rattle.script_words.specs.declared.secrets.Secret.TheVariants as secret
use Rattle.reply_text.specs.declared.outcome.Outcome.TheVariants.{BadRecord, WrongKind}
use Rattle.session_records.specs.declared.loading.LoadedProtector.{LoadedProtector}
use Rattle.session_records.specs.RecordKeys.{IsStretched, checked_protector_key, wrapping_key}
use Rattle.session_records.specs.Records.{OtherKindsAreNotStretched, RawSecretsAreNotStretched, protector_by, protector_under, protector_with_key}

pub raw_is_not_stretched : RawSecretsAreNotStretched
raw_is_not_stretched label raw reply by = by.1.1

-- a key that was unwrapped is of the protector's kind
compared : (loaded : LoadedProtector) (key : List ℕ) (b : Bool) → ¬ (protector_with_key loaded (if b then Ok key else Err BadRecord) ≡ Err WrongKind)
compared loaded key false is = absurd (cc is)
compared loaded key true is = absurd (cc is)

unwrapped : (loaded : LoadedProtector) (descriptor : List ℕ) (got : Option (List ℕ))
    → ¬ (protector_with_key loaded (checked_protector_key descriptor got) ≡ Err WrongKind)
unwrapped loaded descriptor None is = absurd (cc is)
unwrapped loaded descriptor (Some key) is = compared loaded key (bytes_eq (descriptor_of key) descriptor) is

of_kind : (loaded : LoadedProtector) (s : Secret) (k : ProtectorKind) → IsStretched s k → ¬ (protector_under loaded (wrapping_key s k) ≡ Err WrongKind)
of_kind loaded (secret.Raw raw) k by is = absurd by
of_kind loaded (secret.Pass passphrase) kind.Raw by is = absurd by
of_kind loaded (secret.Pass passphrase) (kind.Pass stretching) by is =
    unwrapped loaded loaded.protector.descriptor
    (opened_secret (argon2id_tag stretching.0 passphrase stretching.1 [] []) loaded.protector.iv loaded.protector.key loaded.protector.tag) is

pub other_kind_is_not_stretched : OtherKindsAreNotStretched
other_kind_is_not_stretched label s reply is by =
    of_kind by.0 s by.0.protector.kind by.1.1 (sym (ap (protector_by s) by.1.0) ∙ is)
