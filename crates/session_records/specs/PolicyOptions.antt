-- The options of a policy's record, and those of directories under it.
use Rattle.std.specs.Prelude.{false, Option, Some, None, Result, Ok, Err}
use Rattle.policy_ctx.specs.declared.policy.Pad.{Pad}
use Rattle.policy_ctx.specs.declared.policy.Policy.{Policy as NodePolicy}
use Rattle.policy_ctx.specs.declared.policy.Unit.{Unit as DataUnit}
use Rattle.protector_meta.specs.declared.policy_file.Options.{Options}
use Rattle.protector_meta.specs.declared.policy_file.PolicyFile.{PolicyFile}
use Rattle.reply_text.specs.declared.outcome.Outcome.{Outcome}
use Rattle.reply_text.specs.declared.outcome.Outcome.TheVariants.{Current}
use Rattle.script_lang.specs.declared.verb.Settings.{Settings}
use Rattle.session_records.specs.NewPolicies.{usual_options}

-- a policy of version 1 with the usual options; one that has options stays as it is
abbrev pub with_options : PolicyFile → Option Options → Result PolicyFile Outcome
with_options policy (Some options) = Err Current
with_options policy None = Ok (record policy { options = Some usual_options })

-- the options of a record; one of version 1 has the usual ones
abbrev pub record_options : Option Options → Options
record_options None = usual_options
record_options (Some options) = options

-- the padding that is given, and otherwise the record's
abbrev pub pad_for : Options → Option Settings → Pad
pad_for options None = options.pad
pad_for options (Some settings) = settings.pad

-- this unit, and otherwise the record's
abbrev pub unit_or : Options → Option DataUnit → DataUnit
unit_or options None = options.unit
unit_or options (Some unit) = unit

-- the unit that is given, and otherwise the record's
abbrev pub unit_for : Options → Option Settings → DataUnit
unit_for options None = options.unit
unit_for options (Some settings) = unit_or options settings.unit

-- the policy of a directory that is encrypted under a record's policy: each node has keys of its own
abbrev pub node_policy : PolicyFile → Option Settings → NodePolicy
node_policy policy settings =
    record {
      pad = pad_for (record_options policy.options) settings;
      unit = unit_for (record_options policy.options) settings;
      by_mode = false;
      id = policy.id;
    }
