-- What the arguments of a command mean.
use Rattle.std.specs.Prelude.{ℕ, false, Option, Some, None}
use Rattle.policy_ctx.specs.declared.policy.KeyId.{KeyId}
use Rattle.policy_ctx.specs.declared.policy.Policy.{Policy}
use Rattle.policy_ctx.specs.declared.policy.Unit.{Unit as DataUnit}
use Rattle.policy_ctx.specs.declared.policy.Unit.TheVariants.{Block}
use Rattle.fsc_keys.specs.Keys.{key_id_of}
use Rattle.script_words.specs.declared.key_words.KeyRef.{KeyRef}
use Rattle.script_words.specs.declared.key_words.KeyRef.TheVariants.{Id, Raw}
use Rattle.script_lang.specs.declared.verb.Settings.{Settings}

-- the identifier that a key's reference means; raw bytes mean their own
abbrev pub id_of_ref : KeyRef → KeyId
id_of_ref (Id id) = id
id_of_ref (Raw raw) = key_id_of raw

-- the given unit; a block if none is given
abbrev pub unit_or_block : Option DataUnit → DataUnit
unit_or_block None = Block
unit_or_block (Some unit) = unit

-- the policy with these settings: each node has keys of its own
abbrev pub policy_with_settings : KeyId → Settings → Policy
policy_with_settings id settings =
    record { pad = settings.pad; unit = unit_or_block settings.unit; by_mode = false; id = id }

-- the given number; 0 if none is given
abbrev pub number_or_zero : Option ℕ → ℕ
number_or_zero None = 0
number_or_zero (Some number) = number
