-- What comes after entries that were read.
use Rattle.std.proofs.Common.{◌≡◌, ℕ, false, List, [], ◌∷◌, ◌++◌, Option, Some, None, refl, ap, sym, ◌∙◌, subst, get_or}
use Rattle.std.specs.Prelude.{slice_get, option_map}
use Rattle.std.specs.List.{flat_map}
use Rattle.std.proofs.lemmas.List.Elements.{All-nil, All-cons, All-append}
use Rattle.std.proofs.lemmas.Option.{slice_get-get_or}
use Rattle.call_history.specs.Entries.{entry}
use Rattle.call_history.specs.Placed.{entries_of}
use Rattle.mount_model.specs.declared.call.Call.{Call}
use Rattle.mount_model.specs.declared.reply.Reply.{Reply}
use Rattle.mount_model.specs.History.{History, entries_by}
use Rattle.mount_model.specs.Lawful.{IsLawful}
use Rattle.script_lang.specs.declared.commands.Section.{Section}
use Rattle.script_lang.specs.declared.commands.Command.{Command}
use Rattle.reply_text.specs.Notes.{notes_text}
use Rattle.reply_text.specs.Ranges.{EntryIsInRange}
use Rattle.fsc_session.specs.Meaning.{Follows}
use Rattle.fsc_commands.specs.Steps.{next_of, names_in}
use Rattle.fsc_commands.specs.Commands.{command_steps}
use Rattle.fsc_session.specs.Session.{IsRunSoFar}
use Rattle.next_calls.specs.Callers.{CallerView, call_of, steps_of}
use Rattle.next_calls.specs.EntriesSoFar.{IsCallerAfter}
use Rattle.log_check.specs.declared.expected.Continuation.{Continuation}
use Rattle.log_check.specs.Expected.{IsExpected, IsExpectedLine, ComesOf, AreExpectedNotes}
use Rattle.log_check.specs.ExpectedCallers.{IsCallAt, IsWaiting, IsAnsweredLine, IsExpectedHere}
use Rattle.log_check.specs.Reading.{IsCaller, CallersFollow}
use Rattle.log_check.specs.Stops.{IsRead}
use Rattle.log_check.proofs.FollowLemmas.{follows_on}
use Rattle.log_check.proofs.ReadingLemmas.{next_of_caller}
use Rattle.log_check.proofs.EndLemmas.{AwaitNothing, ended_run, ended_notes}
use Rattle.log_check.proofs.SayLemmas.{Stands}

-- the line of the command that a caller is at
abbrev pub line_at : CallerView → Option ℕ
line_at caller = option_map (λ (command : Command). command.line) (slice_get caller.section.commands caller.next)

abbrev pair : ℕ → Call → ℕ × Call
pair who call = (who, call)

-- the call that a caller waits for comes of that command
comes_of : (seed : List ℕ) (script : List Section) (h : History) (number : ℕ) (caller : CallerView) (call : Call) (reply : Reply) (line : Option ℕ)
    → caller.waiting ≡ Some call → line ≡ line_at caller → IsCaller seed script h number caller → ComesOf seed script h (entry number call reply) line
comes_of seed script h number caller call reply line waits is own = by_command (slice_get caller.section.commands caller.next) refl own.awaits.asks
  where
    is_after : IsCallerAfter seed caller (entries_by number h)
    is_after = own.awaits.is_after

    asked : call_of caller ≡ Some (pair number call)
    asked = ap (option_map (λ (c : Call). pair caller.caller c)) waits ∙ ap (λ (n : ℕ). Some (pair n call)) own.numbered

    by_command : (found : Option Command) → slice_get caller.section.commands caller.next ≡ found
        → next_of (steps_of seed caller found) (entries_of is_after.made) ≡ call_of caller → ComesOf seed script h (entry number call reply) line
    by_command None there asks = absurd (cc (asks ∙ asked))
    by_command (Some command) there asks = record {
      section = caller.section;
      own = own.section;
      number = caller.next;
      command = command;
      there = there;
      line_is = is ∙ ap (option_map (λ (c : Command). c.line)) there;
      before = is_after.before;
      made = is_after.made;
      all = is_after.all;
      notes = caller.notes;
      run = subst (λ (n : ℕ). IsRunSoFar seed n caller.section caller.next is_after.before caller.notes) own.numbered is_after.run;
      asks = ap (λ (n : ℕ). next_of (command_steps seed n caller.section.uid caller.next (names_in is_after.before) command.verb) (entries_of is_after.made)) (sym own.numbered)
          ∙ ap (λ names. next_of (command_steps seed caller.caller caller.section.uid caller.next names command.verb) (entries_of is_after.made)) is_after.names
          ∙ asks ∙ asked;
    }

module _ {M : Type 0} (reached_by : History → M → Type 0) where
  pub line_due : (reached_lawful : (h : History) (mount : M) → reached_by h mount → IsLawful h) (seed : List ℕ) (script : List Section) (whole rest : List ℕ)
      (place : ℕ) (h : History) (callers : List CallerView) (old new : M) (number who : ℕ) (call : Call) (line : List ℕ) (command : Option ℕ)
      → IsCallAt callers number (Some call) → ((caller : CallerView) → slice_get callers number ≡ Some caller → who ≡ caller.caller)
      → ((caller : CallerView) → slice_get callers number ≡ Some caller → command ≡ line_at caller)
      → IsAnsweredLine reached_by old new place who call line → IsRead false seed script whole place rest h → CallersFollow reached_by seed script h callers old
      → IsExpectedLine seed script whole place line command
  line_due reached_lawful seed script whole rest place h callers old new number who call line command waits known placed answered read stand =
      let own = stand.own.each number waits.0 waits.1 in
      let same : who ≡ number = known waits.0 waits.1 ∙ own.numbered in
      record {
        history = h;
        entry = entry who call answered.reply;
        begins = (rest, read.read);
        long = read.long;
        follows = subst (λ (n : ℕ). Follows seed script (h ++ entry n call answered.reply ∷ [])) (sym same)
            (follows_on seed script h number waits.0.section call answered.reply read.follows own.section (next_of_caller seed script h number waits.0 call waits.2 own));
        lawful = reached_lawful (h ++ entry who call answered.reply ∷ []) new (answered.reached_of_reply h stand.reached_of_reply);
        in_range = All-append EntryIsInRange h (entry who call answered.reply ∷ []) read.in_range
            (All-cons EntryIsInRange (entry who call answered.reply) [] answered.in_range (All-nil EntryIsInRange));
        memory = answered.memory;
        comes = subst (λ (n : ℕ). ComesOf seed script h (entry n call answered.reply) command) (sym same)
            (comes_of seed script h number waits.0 call answered.reply command waits.2 (placed waits.0 waits.1) own);
        text_is = answered.text_is;
      }

  pub notes_due : (seed : List ℕ) (script : List Section) (whole rest : List ℕ) (place : ℕ) (h : History) (callers : List CallerView) (mount : M)
      (notes : List ℕ) → IsWaiting callers None → notes ≡ notes_text (flat_map (λ (caller : CallerView). caller.notes) callers)
      → IsRead false seed script whole place rest h → CallersFollow reached_by seed script h callers mount → AreExpectedNotes seed script whole place notes
  notes_due seed script whole rest place h callers mount notes none is read stand =
      let nothing : AwaitNothing callers = λ n d within. none n (get_or callers n d) (slice_get-get_or callers n d within) in
      record {
        history = h;
        begins = (rest, read.read);
        long = read.long;
        runs = ended_run seed script h callers read.follows stand.own nothing;
        lawful = read.lawful;
        text_is = is ∙ ap notes_text (sym (ended_notes seed script h callers stand.own nothing));
      }

  -- so of what was read from the start on
  pub is_due : (seed : List ℕ) (script : List Section) (text : List ℕ) (place wanted : ℕ) (rest : List ℕ) (callers : List CallerView) (mount : M)
      (next : Continuation) → place ≡ wanted → Stands false reached_by seed script text place rest callers mount → IsExpectedHere reached_by callers place rest mount next
      → IsExpected seed script text wanted next
  is_due seed script text place wanted rest callers mount next same is_after here =
      subst (λ (n : ℕ). IsExpected seed script text n next) same (here seed script text is_after.0 is_after.1 is_after.2)
