-- The text of a run on two mounts, from the shown entries of both histories.
use Rattle.std.proofs.Common.{◌≡◌, ℕ, ◌+◌, Bool, true, false, cond, List, [], ◌∷◌, ◌++◌, codes, refl, ap, ap₂, sym, ◌∙◌, filter}
use Rattle.std.specs.Prelude.{◌==◌, unwrap_or}
use Rattle.call_history.specs.Entries.{by, entries_with_places}
use Rattle.call_history.specs.Placed.{entries_of}
use Rattle.call_history.proofs.Placing.{map-numbered}
use Rattle.mount_model.specs.History.{History}
use Rattle.mount_model.specs.Port.{PlacedCalls}
use Rattle.script_lang.specs.declared.commands.Section.{Section}
use Rattle.reply_text.specs.Logged.{PlacedLogged}
use Rattle.reply_text.specs.Notes.{notes_text}
use Rattle.reply_text.specs.declared.notes.Note.{Note}
use Rattle.fsc_commands.specs.Steps.{value_after}
use Rattle.fsc_session.specs.Session.{section_steps}
use Rattle.fsc_session.specs.ScriptRun.{notes_by}
use Rattle.fsc_session.proofs.ShownRuns.{told_log}
use Rattle.linked_turns.specs.LinkedRuns.{IsLinkedLogOf}
use Rattle.linked_turns.specs.LinkedSerial.{TwoHistories, linked_calls}
use Rattle.linked_turns.specs.LinkedText.{both_logs, linked_text}
use Rattle.linked_threads.specs.LinkedThreads.{IsLinkedLogOfCalls}
use Rattle.fsc_tool.specs.LinkedLog.{IsLinkedLog, IsLinkedLogOfThreads}

-- ---- notes are of the entries, whatever places they have

abbrev own : ℕ → History → History
own c h = filter (λ e. e.who == c) h

own_is : (c : ℕ) (xs : PlacedCalls) → entries_of (by c xs) ≡ own c (entries_of xs)
own_is c [] = refl
own_is c (x ∷ xs) = chosen (x.1.who == c) (by c xs) (own c (entries_of xs)) (own_is c xs)
  where
    chosen : (b : Bool) (ys : PlacedCalls) (h : History) → entries_of ys ≡ h → entries_of (cond b (x ∷ ys) ys) ≡ cond b (x.1 ∷ h) h
    chosen true ys h same = ap (λ (l : History). x.1 ∷ l) same
    chosen false ys h same = same

notes_alike : (seed : List ℕ) (k : ℕ) (script : List Section) (xs ys : PlacedCalls) → entries_of xs ≡ entries_of ys
    → notes_by seed k script xs ≡ notes_by seed k script ys
notes_alike seed k [] xs ys same = refl
notes_alike seed k (section ∷ more) xs ys same =
    ap₂ (λ (a b : List Note). a ++ b)
    (ap (λ (h : History). unwrap_or (value_after (section_steps seed k section) h) []) (own_is k xs ∙ ap (own k) same ∙ sym (own_is k ys)))
    (notes_alike seed (k + 1) more xs ys same)

-- ---- the text

-- for such entries and notes, the text is right
pub linked_is : (lawful_0 lawful_1 : History → Type 0) (seed : List ℕ) (script : List Section) (even odd : PlacedLogged) (notes : List Note) (text : List ℕ)
    → IsLinkedLogOf lawful_0 lawful_1 seed script even odd notes → text ≡ linked_text (entries_of even) (entries_of odd) notes
    → IsLinkedLog lawful_0 lawful_1 seed script text
linked_is lawful_0 lawful_1 seed script even odd notes text ran written =
    let log : text ≡ both_logs ran.even ran.odd (notes_by seed 0 script ran.run.told) =
    written
    ∙ ap₂ (λ (first : List ℕ) (rest : List ℕ). codes "mount 0\n" ++ (first ++ (codes "mount 1\n" ++ rest)))
    (told_log even ran.even ran.even_in_place)
    (ap₂ (λ (lines : List ℕ) (ns : List Note). lines ++ notes_text ns) (told_log odd ran.odd ran.odd_in_place) ran.noted) in record {
      even = ran.even;
      odd = ran.odd;
      run = ran.run;
      log = log;
      fixed = λ legal_even legal_odd never_even never_odd.
          let calls = ran.run.serial_calls legal_even legal_odd never_even never_odd in
          let both = ran.run.serial legal_even legal_odd never_even never_odd in
          log
          ∙ ap (λ (ns : List Note). both_logs ran.even ran.odd ns)
          (notes_alike seed 0 script ran.run.told (entries_with_places 0 (linked_calls seed script)) (calls ∙ sym (map-numbered 0 (linked_calls seed script))))
          ∙ ap (λ (h : TwoHistories). both_logs h.even h.odd (notes_by seed 0 script (entries_with_places 0 (linked_calls seed script)))) both;
    }

-- the same of callers in threads
pub linked_apart_is : (lawful_0 lawful_1 : History → Type 0) (seed : List ℕ) (script : List Section) (even odd : PlacedLogged) (notes : List Note)
    → IsLinkedLogOfCalls lawful_0 lawful_1 seed script even odd notes
    → IsLinkedLogOfThreads lawful_0 lawful_1 seed script (linked_text (entries_of even) (entries_of odd) notes)
linked_apart_is lawful_0 lawful_1 seed script even odd notes ran =
    record {
      told = ran.told;
      even = ran.even;
      odd = ran.odd;
      calls = ran.calls;
      log =
          ap₂ (λ (first : List ℕ) (rest : List ℕ). codes "mount 0\n" ++ (first ++ (codes "mount 1\n" ++ rest)))
          (told_log even ran.even ran.even_in_place)
          (ap₂ (λ (lines : List ℕ) (ns : List Note). lines ++ notes_text ns) (told_log odd ran.odd ran.odd_in_place) ran.noted);
    }
