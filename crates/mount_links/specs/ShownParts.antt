-- What a log shows of the calls on both mounts.
use Rattle.std.specs.Prelude.{◌≡◌, ℕ, List}
use Rattle.mount_model.specs.declared.call.Op.TheVariants.{MetaLoad}
use Rattle.mount_model.specs.Port.{PlacedCalls}
use Rattle.reply_text.specs.Calls.{call_text}
use Rattle.reply_text.specs.Logged.{logged_calls}
use Rattle.reply_text.specs.declared.logged.LoggedCall.{LoggedCall}
use Rattle.script_words.specs.Records.{record_name}
use Rattle.script_words.specs.declared.record_words.Record.TheVariants.{Protector}
use Rattle.mount_links.specs.declared.step.LinkStep.{LinkStep}
use Rattle.mount_links.specs.Linked.{own_parts, far_parts}
use Rattle.mount_links.specs.LinkCalls.{load_call}

-- the shown form of the loading of a protector's record, for the user of the shown form of a call
abbrev pub logged_load : List ℕ → LoggedCall → LoggedCall
logged_load label shown =
    record { uid = shown.uid; words = call_text (MetaLoad (record_name (Protector label))) }

-- the shown form of the calls on both mounts follows from that of the caller's calls, and their steps
pub record ShowsBoth (steps : List LinkStep) (calls : PlacedCalls) : Type 0 where
  pub on_own : own_parts logged_load steps (logged_calls calls)
      ≡ logged_calls (own_parts load_call steps calls)
  pub on_far : far_parts steps (logged_calls calls) ≡ logged_calls (far_parts steps calls)
