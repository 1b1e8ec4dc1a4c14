-- Which run a summary is of.
use Rattle.std.proofs.Common.{◌≡◌, ◌≢◌, ℕ, ◌+◌, Bool, true, false, ◌||◌, List, [], ◌∷◌, ◌++◌, codes, refl, sym, ap, ap₂, ◌∙◌, subst}
use Rattle.std.specs.Prelude.{count_by, length, if◌then◌else◌}
use Rattle.std.proofs.lemmas.List.{length-map}
use Rattle.std.specs.List.{All, fold, list_any}
use Rattle.std.proofs.lemmas.List.Elements.{All-nil, All-cons}
use Rattle.call_history.specs.Placed.{entries_of}
use Rattle.call_history.proofs.Placing.{map-numbered}
use Rattle.mount_model.specs.History.{History, MountEntry, NeverOutOfMemory, is_out_of_memory}
use Rattle.mount_model.specs.declared.reply.Reply.{Reply}
use Rattle.mount_model.specs.declared.reply.Reply.TheVariants.{Refused}
use Rattle.mount_model.specs.declared.reply.Refusal.TheVariants as refusal
use Rattle.script_lang.specs.declared.commands.Section.{Section}
use Rattle.load_gen.specs.Generated.{generated_script}
use Rattle.hex.specs.Hex.{encode_lower}
use Rattle.sha2.specs.Sha256.{sha256}
use Rattle.reply_text.specs.Logged.{PlacedLogged, LoggedEntry, LoggedHistory, logged_entry, logged_history, log_of_history}
use Rattle.reply_text.proofs.LogLemmas.{log_shown}
use Rattle.fsc_session.specs.ScriptRun.{notes_of}
use Rattle.fsc_session.proofs.SerialLemmas.{lawful_serial}
use Rattle.reply_text.specs.Notes.{notes_text}
use Rattle.reply_text.specs.declared.notes.Note.{Note}
use Rattle.fsc_tool.specs.Gen.{zero_seed, run_summary, SummaryOfRun}
use Rattle.script_runs.specs.Runs.{IsSerialRun, IsLogOf}
use Rattle.fsc_tool.specs.Summary.{count_line, is_busy_removal, is_refusal, summary_text}

-- ---- summaries

or_false : (a b : Bool) → (a || b) ≡ false → (a ≡ false) × (b ≡ false)
or_false true b h = absurd (cc h)
or_false false b h = (refl, h)

-- if no shown entry is out of memory, no call was
pub never_wants : (history : History) → list_any (λ (e : LoggedEntry). is_out_of_memory e.reply) (logged_history history) ≡ false
    → All (λ (e : MountEntry). e.reply ≢ Refused refusal.NoMemory) history
never_wants [] h = All-nil (λ (e : MountEntry). e.reply ≢ Refused refusal.NoMemory)
never_wants (e ∷ es) h =
    let parts = or_false (is_out_of_memory e.reply) (list_any (λ (e : LoggedEntry). is_out_of_memory e.reply) (logged_history es)) h in
    All-cons (λ (e : MountEntry). e.reply ≢ Refused refusal.NoMemory) e es
    (λ is. let both = sym parts.0 ∙ ap is_out_of_memory is in cc both) (never_wants es parts.1)

-- whether a call was out of memory doesn't depend on places
pub unplaced_want : (told : PlacedLogged)
    → list_any (λ (e : LoggedEntry). is_out_of_memory e.reply) (entries_of told)
    ≡ list_any (λ (x : ℕ × LoggedEntry). is_out_of_memory x.1.reply) told
unplaced_want [] = refl
unplaced_want (x ∷ xs) = ap (λ (b : Bool). is_out_of_memory x.1.reply || b) (unplaced_want xs)

counts_shown : (p : Reply → Bool) (history : History)
    → count_by (λ (e : LoggedEntry). p e.reply) (logged_history history) ≡ count_by (λ (e : MountEntry). p e.reply) history
counts_shown p history = counts_from 0 history
  where
    counts_from : (n : ℕ) (history : History)
        → fold (λ (a : ℕ) (e : LoggedEntry). a + (if p e.reply then 1 else 0)) n (logged_history history)
        ≡ fold (λ (a : ℕ) (e : MountEntry). a + (if p e.reply then 1 else 0)) n history
    counts_from n [] = refl
    counts_from n (e ∷ es) = counts_from (n + (if p e.reply then 1 else 0)) es

-- the shown entries of a history have its summary
summary_shown : (history : History) (log : List ℕ) → summary_text (logged_history history) log ≡ summary_text history log
unfolding summary_text
summary_shown history log =
    ap₂ (λ (n m : ℕ). count_line (codes "entries") n ++ (count_line (codes "refused") m
    ++ (count_line (codes "busy") (count_by (λ (e : LoggedEntry). is_busy_removal e.reply) (logged_history history)) ++ (codes "sha256 " ++ (encode_lower (sha256 log) ++ codes "\n")))))
    (length-map history logged_entry) (counts_shown is_refusal history)
    ∙ ap (λ (n : ℕ). count_line (codes "entries") (length history) ++ (count_line (codes "refused") (count_by (λ (e : MountEntry). is_refusal e.reply) history)
    ++ (count_line (codes "busy") n ++ (codes "sha256 " ++ (encode_lower (sha256 log) ++ codes "\n"))))) (counts_shown is_busy_removal history)

-- the summary of the entries of a run of the generated script
pub summary_is : (lawful : History → Type 0) (number : ℕ) (script : List Section) (seed : List ℕ) (told : PlacedLogged) (notes : List Note) (text : List ℕ)
    → script ≡ generated_script number → seed ≡ zero_seed → IsLogOf (IsSerialRun lawful) seed script told notes
    → list_any (λ (x : ℕ × LoggedEntry). is_out_of_memory x.1.reply) told ≡ false
    → text ≡ summary_text (entries_of told) (log_of_history (entries_of told) ++ notes_text notes) → SummaryOfRun lawful number text
summary_is lawful number script seed told notes text made zeros run none summed =
    let ran : IsLogOf (IsSerialRun lawful) zero_seed (generated_script number) told notes =
    subst (λ s. IsLogOf (IsSerialRun lawful) zero_seed s told notes) made (subst (λ z. IsLogOf (IsSerialRun lawful) z script told notes) zeros run) in
    let is : entries_of told ≡ logged_history ran.history = ap entries_of ran.in_place ∙ map-numbered 0 (logged_history ran.history) in
    let no_out_of_memory : NeverOutOfMemory ran.history =
    never_wants ran.history
    (subst (λ (h : LoggedHistory). list_any (λ (e : LoggedEntry). is_out_of_memory e.reply) h ≡ false) is (unplaced_want told ∙ none)) in
    let summary : text ≡ run_summary zero_seed (generated_script number) ran.history =
    summed ∙ ap₂ (λ (h : LoggedHistory) (ns : List Note). summary_text h (log_of_history h ++ notes_text ns)) is ran.noted
    ∙ ap (λ (lines : List ℕ). summary_text (logged_history ran.history) (lines ++ notes_text (notes_of zero_seed (generated_script number) ran.history))) (log_shown ran.history)
    ∙ summary_shown ran.history _ in
    record {
      history = ran.history;
      run = ran.run;
      no_out_of_memory = no_out_of_memory;
      summary = summary;
      fixed = λ mounts agree. summary
          ∙ ap (run_summary zero_seed (generated_script number))
          (lawful_serial zero_seed (generated_script number) ran.history ran.run.order.0 ran.run.order.1 (mounts ran.history ran.run.run.lawfully) no_out_of_memory agree);
    }
