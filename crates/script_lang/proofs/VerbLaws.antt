-- The words that are written of a command are that command's, and have no byte that separates words.
use Rattle.std.proofs.Common.{◌≡◌, ℕ, ◌<◌, ◌≤◌, ◌^◌, List, Option, Some, None, refl, arith}
use Rattle.std.specs.Prelude.{IfSome}
use Rattle.text_words.specs.Numbers.{decimal_of}
use Rattle.policy_ctx.specs.declared.policy.Pad.{Pad}
use Rattle.policy_ctx.specs.declared.policy.Unit.{Unit as DataUnit}
use Rattle.script_lang.specs.VerbNames.{name_in}
use Rattle.script_lang.specs.Commands.{command_named}
use Rattle.script_lang.specs.VerbWords.{verb_words}
use Rattle.script_lang.specs.SettingWords.{words_of_settings, words_of_unit, words_of_optional_settings, words_of_options, words_of_number}
use Rattle.script_words.specs.Numbers.{IsNumber}
use Rattle.script_lang.specs.CommandTasks.{IsAskable}
use Rattle.script_lang.specs.declared.limits.TheConstants.{MAX_ADDED_BYTES, MAX_WRITTEN_BYTES, MAX_FILLED_BYTES, MAX_PUT_BYTES, POLICY_BYTES}
use Rattle.script_lang.specs.declared.verb.Verb.{Verb}
use Rattle.script_lang.specs.declared.verb.Verb.TheVariants as verb
use Rattle.script_lang.specs.declared.names.CommandName.TheVariants as name
use Rattle.script_words.specs.declared.path.ScriptPart.{ScriptPart}
use Rattle.script_words.specs.declared.secrets.Secret.{Secret}
use Rattle.script_words.specs.declared.key_words.KeyRef.{KeyRef}
use Rattle.script_lang.specs.declared.verb.Settings.{Settings}
use Rattle.script_lang.specs.declared.verb.Options.{Options}
use Rattle.script_words.proofs.EscapeLemmas.{target_bytes-word_text}
use Rattle.script_words.proofs.PathLemmas.{path_of-path_text}
use Rattle.script_words.proofs.PlainWords.{IsPlain, ArePlain, IsPlain-encode_lower, IsPlain-number, IsPlain-decimal_of, IsPlain-pad_text, IsPlain-unit_text, IsPlain-hex_or_none, IsPlain-word_text, IsPlain-path_text, IsPlain-label, IsPlain-record_name, IsPlain-key_ref_text, IsPlain-secret_text, IsPlain-new_secret_text}
use Rattle.script_words.proofs.WordReadings.{hex_of_size-encode_lower, hex_bytes_of_length-encode_lower, hex_or_none-text, key_ref_of-text, number_of-text, number_up_to-text, pad_of-text, unit_of-text, label_of-label, record_of-name, secret_of-text, new_secret_of-text}

-- ---- the values of the words

set_policy_words : (path : List ScriptPart) (key : KeyRef) (pad : Pad) (unit : Option DataUnit)
    → (let settings : Settings = record { pad = pad; unit = unit } in IsAskable (verb.SetPolicy path key settings)
    → command_named name.SetPolicy (verb_words (verb.SetPolicy path key settings)) ≡ Some (verb.SetPolicy path key settings))
unfolding command_named
set_policy_words path key pad None h = rw (path_of-path_text path h.0, key_ref_of-text key h.1, pad_of-text pad) refl
set_policy_words path key pad (Some unit) h =
    rw (path_of-path_text path h.0, key_ref_of-text key h.1, pad_of-text pad, unit_of-text unit) refl

policy_new_words : (policy protector : List ℕ) (secret : Secret) (options : Option Options)
    → IsAskable (verb.PolicyNew policy protector secret options)
    → command_named name.PolicyNew (verb_words (verb.PolicyNew policy protector secret options))
    ≡ Some (verb.PolicyNew policy protector secret options)
unfolding command_named
policy_new_words policy protector secret None h =
    rw (label_of-label policy h.0, label_of-label protector h.1.0, secret_of-text secret h.1.1) refl
policy_new_words policy protector secret (Some options) h =
    rw (
      label_of-label policy h.0,
      label_of-label protector h.1.0,
      secret_of-text secret h.1.1,
      pad_of-text options.pad,
      unit_of-text options.unit,
    )
    refl

encrypt_settings : (path : List ScriptPart) (policy : List ℕ) (pad : Pad) (unit : Option DataUnit)
    → (let settings : Settings = record { pad = pad; unit = unit } in IsAskable (verb.Encrypt path policy (Some settings))
    → command_named name.Encrypt (verb_words (verb.Encrypt path policy (Some settings))) ≡ Some (verb.Encrypt path policy (Some settings)))
unfolding command_named
encrypt_settings path policy pad None h = rw (path_of-path_text path h.0, label_of-label policy h.1, pad_of-text pad) refl
encrypt_settings path policy pad (Some unit) h =
    rw (path_of-path_text path h.0, label_of-label policy h.1, pad_of-text pad, unit_of-text unit) refl

encrypt_words : (path : List ScriptPart) (policy : List ℕ) (settings : Option Settings) → IsAskable (verb.Encrypt path policy settings)
    → command_named name.Encrypt (verb_words (verb.Encrypt path policy settings)) ≡ Some (verb.Encrypt path policy settings)
unfolding command_named
encrypt_words path policy None h = rw (path_of-path_text path h.0, label_of-label policy h.1) refl
encrypt_words path policy (Some settings) h = encrypt_settings path policy settings.pad settings.unit h

pub command_named-words : (verb : Verb) → IsAskable verb → command_named (name_in verb) (verb_words verb) ≡ Some verb
unfolding command_named
command_named-words (verb.AddKey bytes) h = rw (hex_of_size-encode_lower 1 MAX_ADDED_BYTES bytes h.0 h.1.0 h.1.1) refl
command_named-words (verb.RemoveKey key) h = rw (key_ref_of-text key h) refl
command_named-words (verb.RemoveKeyAll key) h = rw (key_ref_of-text key h) refl
command_named-words (verb.KeyStatus key) h = rw (key_ref_of-text key h) refl
command_named-words (verb.SetPolicy path key settings) h = set_policy_words path key settings.pad settings.unit h
command_named-words (verb.SetPolicyBytes path policy) h =
    rw (
      path_of-path_text path h.0,
      hex_bytes_of_length-encode_lower POLICY_BYTES policy h.1.0 h.1.1,
    )
    refl
command_named-words (verb.GetPolicy path) h = rw (path_of-path_text path h) refl
command_named-words (verb.Mkdir path) h = rw (path_of-path_text path h) refl
command_named-words (verb.Create path) h = rw (path_of-path_text path h) refl
command_named-words (verb.Symlink path target) h =
    rw (
      path_of-path_text path h.0,
      target_bytes-word_text target h.1.0 h.1.1,
    )
    refl
command_named-words (verb.ReadLink path) h = rw (path_of-path_text path h) refl
command_named-words (verb.Unlink path) h = rw (path_of-path_text path h) refl
command_named-words (verb.Rmdir path) h = rw (path_of-path_text path h) refl
command_named-words (verb.Rename old_path new_path) h =
    rw (
      path_of-path_text old_path h.0,
      path_of-path_text new_path h.1,
    )
    refl
command_named-words (verb.List path None) h = rw (path_of-path_text path h.0) refl
command_named-words (verb.List path (Some start)) h =
    rw (
      path_of-path_text path h.0,
      number_of-text start h.1,
    )
    refl
command_named-words (verb.Stat path) h = rw (path_of-path_text path h) refl
command_named-words (verb.Open path) h = rw (path_of-path_text path h) refl
command_named-words (verb.Close handle) h = rw (number_of-text handle h) refl
command_named-words (verb.Read handle offset len) h =
    rw (
      number_of-text handle h.0,
      number_of-text offset h.1.0,
      number_of-text len h.1.1,
    )
    refl
command_named-words (verb.Write handle offset bytes) h =
    rw (
      number_of-text handle h.0,
      number_of-text offset h.1.0,
      hex_or_none-text MAX_WRITTEN_BYTES bytes h.1.1.0 h.1.1.1,
    )
    refl
command_named-words (verb.Fill handle offset len byte) h =
    rw (
      number_of-text handle h.0,
      number_of-text offset h.1.0,
      number_up_to-text MAX_FILLED_BYTES len (omega arith) h.1.1.0,
      number_up_to-text 255 byte (omega arith) h.1.1.1,
    )
    refl
command_named-words verb.DropCaches h = refl
command_named-words (verb.MetaGet name) h = rw (record_of-name name h) refl
command_named-words (verb.MetaPut name expected bytes) h =
    rw (
      record_of-name name h.0,
      number_of-text expected h.1.0,
      hex_or_none-text MAX_PUT_BYTES bytes h.1.1.0 h.1.1.1,
    )
    refl
command_named-words (verb.Protector protector secret) h =
    rw (
      label_of-label protector h.0,
      new_secret_of-text secret h.1,
    )
    refl
command_named-words (verb.ProtectorChange protector secret new_secret) h =
    rw (
      label_of-label protector h.0,
      secret_of-text secret h.1.0,
      new_secret_of-text new_secret h.1.1,
    )
    refl
command_named-words (verb.ProtectorLink protector) h = rw (label_of-label protector h) refl
command_named-words (verb.PolicyNew policy protector secret options) h = policy_new_words policy protector secret options h
command_named-words (verb.PolicyAdd policy protector secret added added_secret) h =
    rw (
      label_of-label policy h.0,
      label_of-label protector h.1.0,
      secret_of-text secret h.1.1.0,
      label_of-label added h.1.1.1.0,
      secret_of-text added_secret h.1.1.1.1,
    )
    refl
command_named-words (verb.PolicyDrop policy protector) h =
    rw (
      label_of-label policy h.0,
      label_of-label protector h.1,
    )
    refl
command_named-words (verb.Unlock policy protector secret) h =
    rw (
      label_of-label policy h.0,
      label_of-label protector h.1.0,
      secret_of-text secret h.1.1,
    )
    refl
command_named-words (verb.Lock policy) h = rw (label_of-label policy h) refl
command_named-words (verb.Status policy) h = rw (label_of-label policy h) refl
command_named-words (verb.Encrypt path policy settings) h = encrypt_words path policy settings h
command_named-words (verb.Migrate policy) h = rw (label_of-label policy h) refl
command_named-words verb.Pause h = refl

-- ---- the words are plain

IsPlain-up_to : (most n : ℕ) → most < 2 ^ 64 → n ≤ most → IsPlain (decimal_of n)
IsPlain-up_to most n bound small = IsPlain-decimal_of n (omega arith)

unit_plain : (unit : Option DataUnit) → ArePlain (words_of_unit unit)
unit_plain None = tt
unit_plain (Some unit) = (IsPlain-unit_text unit, tt)

settings_plain : (settings : Settings) → ArePlain (words_of_settings settings)
settings_plain settings = (IsPlain-pad_text settings.pad, unit_plain settings.unit)

said_settings_plain : (settings : Option Settings) → ArePlain (words_of_optional_settings settings)
said_settings_plain None = tt
said_settings_plain (Some settings) = settings_plain settings

options_plain : (options : Option Options) → ArePlain (words_of_options options)
options_plain None = tt
options_plain (Some options) = (IsPlain-pad_text options.pad, (IsPlain-unit_text options.unit, tt))

number_plain : (number : Option ℕ) → IfSome number IsNumber → ArePlain (words_of_number number)
number_plain None h = tt
number_plain (Some number) h = (IsPlain-number number h, tt)

pub verb_words-plain : (verb : Verb) → IsAskable verb → ArePlain (verb_words verb)
verb_words-plain (verb.AddKey bytes) h = (IsPlain-encode_lower bytes h.1.1, tt)
verb_words-plain (verb.RemoveKey key) h = (IsPlain-key_ref_text key h, tt)
verb_words-plain (verb.RemoveKeyAll key) h = (IsPlain-key_ref_text key h, tt)
verb_words-plain (verb.KeyStatus key) h = (IsPlain-key_ref_text key h, tt)
verb_words-plain (verb.SetPolicy path key settings) h =
    (IsPlain-path_text path h.0, (IsPlain-key_ref_text key h.1, settings_plain settings))
verb_words-plain (verb.SetPolicyBytes path policy) h =
    (IsPlain-path_text path h.0, (IsPlain-encode_lower policy h.1.1, tt))
verb_words-plain (verb.GetPolicy path) h = (IsPlain-path_text path h, tt)
verb_words-plain (verb.Mkdir path) h = (IsPlain-path_text path h, tt)
verb_words-plain (verb.Create path) h = (IsPlain-path_text path h, tt)
verb_words-plain (verb.Symlink path target) h =
    (IsPlain-path_text path h.0, (IsPlain-word_text target, tt))
verb_words-plain (verb.ReadLink path) h = (IsPlain-path_text path h, tt)
verb_words-plain (verb.Unlink path) h = (IsPlain-path_text path h, tt)
verb_words-plain (verb.Rmdir path) h = (IsPlain-path_text path h, tt)
verb_words-plain (verb.Rename old_path new_path) h =
    (IsPlain-path_text old_path h.0, (IsPlain-path_text new_path h.1, tt))
verb_words-plain (verb.List path start) h = (IsPlain-path_text path h.0, number_plain start h.1)
verb_words-plain (verb.Stat path) h = (IsPlain-path_text path h, tt)
verb_words-plain (verb.Open path) h = (IsPlain-path_text path h, tt)
verb_words-plain (verb.Close handle) h = (IsPlain-number handle h, tt)
verb_words-plain (verb.Read handle offset len) h =
    (IsPlain-number handle h.0, (IsPlain-number offset h.1.0, (IsPlain-number len h.1.1, tt)))
verb_words-plain (verb.Write handle offset bytes) h =
    (IsPlain-number handle h.0, (IsPlain-number offset h.1.0, (IsPlain-hex_or_none bytes h.1.1.1, tt)))
verb_words-plain (verb.Fill handle offset len byte) h =
    (IsPlain-number handle h.0, (IsPlain-number offset h.1.0, (IsPlain-up_to MAX_FILLED_BYTES len (omega arith) h.1.1.0, (IsPlain-up_to 255 byte (omega arith) h.1.1.1, tt))))
verb_words-plain verb.DropCaches h = tt
verb_words-plain (verb.MetaGet name) h = (IsPlain-record_name name h, tt)
verb_words-plain (verb.MetaPut name expected bytes) h =
    (IsPlain-record_name name h.0, (IsPlain-number expected h.1.0, (IsPlain-hex_or_none bytes h.1.1.1, tt)))
verb_words-plain (verb.Protector protector secret) h =
    (IsPlain-label protector h.0, (IsPlain-new_secret_text secret h.1, tt))
verb_words-plain (verb.ProtectorChange protector secret new_secret) h =
    (IsPlain-label protector h.0, (IsPlain-secret_text secret h.1.0, (IsPlain-new_secret_text new_secret h.1.1, tt)))
verb_words-plain (verb.ProtectorLink protector) h = (IsPlain-label protector h, tt)
verb_words-plain (verb.PolicyNew policy protector secret options) h =
    (IsPlain-label policy h.0, (IsPlain-label protector h.1.0, (IsPlain-secret_text secret h.1.1, options_plain options)))
verb_words-plain (verb.PolicyAdd policy protector secret added added_secret) h =
    (IsPlain-label policy h.0, (IsPlain-label protector h.1.0, (IsPlain-secret_text secret h.1.1.0, (IsPlain-label added h.1.1.1.0, (IsPlain-secret_text added_secret h.1.1.1.1, tt)))))
verb_words-plain (verb.PolicyDrop policy protector) h =
    (IsPlain-label policy h.0, (IsPlain-label protector h.1, tt))
verb_words-plain (verb.Unlock policy protector secret) h =
    (IsPlain-label policy h.0, (IsPlain-label protector h.1.0, (IsPlain-secret_text secret h.1.1, tt)))
verb_words-plain (verb.Lock policy) h = (IsPlain-label policy h, tt)
verb_words-plain (verb.Status policy) h = (IsPlain-label policy h, tt)
verb_words-plain (verb.Encrypt path policy settings) h =
    (IsPlain-path_text path h.0, (IsPlain-label policy h.1, said_settings_plain settings))
verb_words-plain (verb.Migrate policy) h = (IsPlain-label policy h, tt)
verb_words-plain verb.Pause h = tt
