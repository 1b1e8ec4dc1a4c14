-- The policies that a session makes, with their options and the wrap of their key.
use Rattle.std.specs.Prelude.{ℕ, List, [], ◌∷◌, Option, Some, None}
use Rattle.policy_ctx.specs.declared.policy.Pad.TheVariants.{P32}
use Rattle.policy_ctx.specs.declared.policy.Unit.TheVariants.{Block}
use Rattle.fsc_keys.specs.Keys.{key_id_of}
use Rattle.key_wrap.specs.Wrapping.{wrapped_secret}
use Rattle.protector_meta.specs.declared.policy_file.Options.{Options}
use Rattle.protector_meta.specs.declared.policy_file.PolicyFile.{PolicyFile}
use Rattle.protector_meta.specs.declared.wraps.Wrap.{Wrap}
use Rattle.script_lang.specs.declared.verb.Options.{Options as SaidOptions}

-- the options of directories for which a record gives none: names padded to 32 bytes, contents in blocks
abbrev pub usual_options : Options
usual_options = record { pad = P32; unit = Block }

-- the options that are given, and otherwise the usual ones
abbrev pub options_or_default : Option SaidOptions → Options
options_or_default None = usual_options
options_or_default (Some said) = record { pad = said.pad; unit = said.unit }

-- a policy's key, wrapped with an iv under the key of the protector of this label
abbrev pub made_wrap : List ℕ → List ℕ → List ℕ → List ℕ → Wrap
made_wrap protector key iv policy_key =
    record {
      protector = protector;
      iv = iv;
      key = (wrapped_secret key iv policy_key).0;
      tag = (wrapped_secret key iv policy_key).1;
    }

-- the policy of this label with this key and these options, which one protector opens
abbrev pub made_policy : List ℕ → List ℕ → Options → Wrap → PolicyFile
made_policy label policy_key options wrap =
    record { name = label; id = key_id_of policy_key; options = Some options; wraps = wrap ∷ [] }
