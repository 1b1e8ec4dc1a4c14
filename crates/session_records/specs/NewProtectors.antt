-- The protectors that a session makes: a new one, and one that gets another secret.
use Rattle.std.specs.Prelude.{ℕ, List, []}
use Rattle.fsc_keys.specs.Keys.{descriptor_of}
use Rattle.argon_kdf.specs.Argon2id.{argon2id_tag}
use Rattle.key_wrap.specs.Wrapping.{wrapped_secret}
use Rattle.protector_meta.specs.declared.protector.Protector.{Protector}
use Rattle.protector_meta.specs.declared.protector.ProtectorKind.{ProtectorKind}
use Rattle.protector_meta.specs.declared.protector.ProtectorKind.TheVariants as kind
use Rattle.protector_meta.specs.Rewrapped.{rewrapped_protector}
use Rattle.script_words.specs.declared.secrets.NewSecret.{NewSecret}
use Rattle.script_words.specs.declared.secrets.NewSecret.TheVariants as secret

-- the source of a new secret's wrapping key, with this salt for a passphrase
abbrev pub new_kind : List ℕ → NewSecret → ProtectorKind
new_kind salt (secret.Raw raw) = kind.Raw
new_kind salt (secret.Pass costs passphrase) = kind.Pass (costs, salt)

-- that wrapping key: the secret itself, or what the passphrase is stretched to
abbrev pub new_wrapping_key : List ℕ → NewSecret → List ℕ
new_wrapping_key salt (secret.Raw raw) = raw
new_wrapping_key salt (secret.Pass costs passphrase) = argon2id_tag costs passphrase salt [] []

-- the protector of this label with this key, wrapped with an iv under a new secret's wrapping key
abbrev pub made_protector : List ℕ → List ℕ → NewSecret → List ℕ → List ℕ → Protector
made_protector label key new iv salt =
    record {
      name = label;
      kind = new_kind salt new;
      descriptor = descriptor_of key;
      iv = iv;
      key = (wrapped_secret (new_wrapping_key salt new) iv key).0;
      tag = (wrapped_secret (new_wrapping_key salt new) iv key).1;
    }

-- the same protector with the same key, wrapped under a new secret's wrapping key
abbrev pub changed_protector : Protector → List ℕ → NewSecret → List ℕ → List ℕ → Protector
changed_protector old key new iv salt
    = rewrapped_protector old (new_kind salt new) (new_wrapping_key salt new) iv key
