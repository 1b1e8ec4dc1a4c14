-- A run of a form that generates: what it writes, and how it ends. It asks neither the source nor the seed
-- source.
use Rattle.std.specs.Prelude.{◌≡◌, ℕ, List, ◌++◌, replicate}
use Rattle.mount_model.specs.History.{History, NeverOutOfMemory}
use Rattle.mount_model.specs.Lawful.{IsLawful, KeysAgree}
use Rattle.script_lang.specs.declared.commands.Section.{Section}
use Rattle.load_gen.specs.Generated.{generated_text, generated_script}
use Rattle.fsc_outside.specs.Causes.{Rose}
use Rattle.reply_text.specs.Log.{log_text}
use Rattle.reply_text.specs.Notes.{notes_text}
use Rattle.fsc_tool.specs.declared.status.Status.{Status}
use Rattle.fsc_tool.specs.declared.status.Status.TheVariants.{Done}
use Rattle.fsc_session.specs.ScriptRun.{notes_of}
use Rattle.fsc_session.specs.Serial.{serial_history}
use Rattle.fsc_tool.specs.TextEnds.{EndsUnread}
use Rattle.fsc_tool.specs.Outside.{Outside}
use Rattle.fsc_tool.specs.Replay.{IsOrNoMemory}
use Rattle.script_runs.specs.Runs.{IsSerialRun}
use Rattle.fsc_tool.specs.Summary.{summary_text}

-- the seed of a run that is summarised
unfoldable pub zero_seed : List ℕ
zero_seed = replicate 32 0

-- the summary of a history that is a run of the script with this seed: that of its log, followed by the
-- notes
abbrev pub run_summary : List ℕ → List Section → History → List ℕ
run_summary seed script history =
    summary_text history (log_text history ++ notes_text (notes_of seed script history))

-- the history of the generated script in rotation, a function of the number
abbrev pub generated_history : ℕ → History
generated_history number = serial_history zero_seed (generated_script number)

-- the machine's histories are lawful ones of a mount
abbrev pub IsOfMounts : (History → Type 0) → Type 0
IsOfMounts lawful = (history : History) → lawful history → IsLawful history

-- the text is the summary of a run in rotation of the generated script in which no call was out of memory;
-- for a mount it is that of the script's own history, a function of the number, if no two different raw
-- keys that this history adds share an identifier
pub record SummaryOfRun (lawful : History → Type 0) (number : ℕ) (text : List ℕ) : Type 0 where
  pub history : History
  pub run : IsSerialRun lawful zero_seed (generated_script number) history
  pub no_out_of_memory : NeverOutOfMemory history
  pub summary : text ≡ run_summary zero_seed (generated_script number) history
  pub fixed : IsOfMounts lawful → KeysAgree (generated_history number)
      → text ≡ run_summary zero_seed (generated_script number) (generated_history number)

-- the text is the script that the number gives
abbrev pub IsScriptText : ℕ → List ℕ → Type 0
IsScriptText number text = text ≡ generated_text number

-- a run that reads nothing and writes such a text
pub record IsGenRun (IsText : List ℕ → Type 0) (a b : Outside) (status : Status) : Type 0 where
  -- what the status means, with its cause
  pub ends : EndsUnread IsText a.sink b.sink status
  -- nothing is read, and no seed asked for
  pub unread : b.source ≡ a.source
  pub unasked : b.seeds ≡ a.seeds
  -- without a fault of the sink, the text is written, or there is no memory
  pub complete : ¬ Rose a.sink.faults b.sink.faults → IsOrNoMemory Done status
