-- How a caller's state changes with a reply.
use Rattle.std.proofs.Common.{◌≡◌, ℕ, ◌+◌, ◌≤◌, List, [], ◌∷◌, ◌++◌, drop, length, reverse, Some, None, Option, Result, Ok, Err, OnOk, refl, ap, sym, ◌∙◌, subst, append_assoc, append-nil, ⊎_elim}
use Rattle.std.specs.Prelude.{slice_get}
use Rattle.std.proofs.lemmas.List.{map-append, reverse-append}
use Rattle.std.proofs.lemmas.Option.{slice_get_cases, slice_get_past}
use Rattle.call_history.specs.Entries.{entry}
use Rattle.call_history.specs.Placed.{entries_of}
use Rattle.mount_model.specs.declared.call.Call.{Call}
use Rattle.mount_model.specs.declared.reply.Reply.{Reply}
use Rattle.mount_model.specs.History.{History, MountEntry}
use Rattle.mount_model.specs.Port.{PlacedCalls}
use Rattle.script_lang.specs.declared.commands.Command.{Command}
use Rattle.script_lang.specs.declared.commands.Section.{Section}
use Rattle.reply_text.specs.Logged.{PlacedLogged, logged_calls}
use Rattle.reply_text.specs.declared.notes.Note.{Note}
use Rattle.reply_text.specs.declared.outcome.Outcome.{Outcome}
use Rattle.fsc_commands.specs.Steps.{Steps, Reaches, next_of, names_after, names_from, names_in, and_then}
use Rattle.fsc_commands.specs.Steps.Steps.{Done, Ask}
use Rattle.fsc_commands.specs.Commands.{command_steps}
use Rattle.fsc_commands.specs.CommandSteps.{CommandSteps}
use Rattle.fsc_commands.proofs.StepsLemmas.{entries_of-append, names_in-append, names_in-shown, names_from-shown}
use Rattle.fsc_session.specs.Session.{IsRunOfSection, IsRunSoFar, steps_from, section_steps, notes_of_command, notes_of_section}
use Rattle.fsc_session.specs.Meaning.{IsBegunBy}
use Rattle.fsc_session.specs.Runners.{runner_view}
use Rattle.fsc_session.specs.Stopping as stopping
use Rattle.fsc_session.proofs.RunLemmas.{drop-at, run_goes_on, run_is_whole, notes_are_whole}
use Rattle.fsc_session.proofs.StopLemmas.{is_begun}
use Rattle.fsc_session.proofs.LawLemmas.{next_calls}
use Rattle.next_calls.specs.NextCalls.{IsNext, EndsSo, replies_of, remaining_replies}
use Rattle.next_calls.specs.declared.next.Next.{Next}
use Rattle.next_calls.specs.declared.next.Next.TheVariants as next
use Rattle.next_calls.specs.Callers.{CallerView, caller_view, steps_of, steps_under_way}
use Rattle.next_calls.specs.EntriesSoFar.{IsCallerAfter, Awaits}
use Rattle.next_calls.proofs.NextLemmas.{ended_alone}

-- ---- the call that comes next

-- of steps and what comes after them
next_of-and_then : {A B : Type 0} (names : List (List ℕ)) (steps : Steps A) (next : List (List ℕ) → A → Steps B) (es : History) (asked : ℕ × Call)
    → next_of steps es ≡ Some asked → next_of (and_then names steps next) es ≡ Some asked
next_of-and_then names (Done value) next es asked is = absurd (cc is)
next_of-and_then names (Ask who call more) next [] asked is = is
next_of-and_then names (Ask who call more) next (e ∷ es) asked is = next_of-and_then (names_after names e.reply) (more e.reply) next es asked is

-- after entries and others
next_of-on : {A : Type 0} (steps rest : Steps A) (es fs : History) → Reaches steps es rest → next_of steps (es ++ fs) ≡ next_of rest fs
next_of-on steps rest [] fs so = ap (λ s. next_of s fs) so
next_of-on (Done value) rest (e ∷ es) fs so = absurd so
next_of-on (Ask who call next) rest (e ∷ es) fs so = next_of-on (next e.reply) rest es fs so.2

-- steps continue after it, whatever the reply
asked_next : {A : Type 0} (steps rest : Steps A) (es : History) (who : ℕ) (call : Call) (reply : Reply) → Reaches steps es rest
    → next_of steps es ≡ Some (who, call) → (last : Steps A) × Reaches steps (es ++ entry who call reply ∷ []) last
asked_next (Done value) rest es who call reply so is = absurd (cc is)
asked_next (Ask asker it next) rest [] who call reply so is =
    let same : (asker, it) ≡ (who, call) = cc is in
    (next reply, (ap (λ (p : ℕ × Call). p.0) (sym same), ap (λ (p : ℕ × Call). p.1) (sym same), refl))
asked_next (Ask asker it next) rest (e ∷ es) who call reply so is =
    let more = asked_next (next e.reply) rest es who call reply so.2 is in
    (more.0, (so.0, so.1, more.1))

-- ---- a caller before its first command

pub stands_new : (seed : List ℕ) (caller : ℕ) (section : Section) → IsCallerAfter seed (caller_view caller section 0 [] [] [] None) []
stands_new seed caller section = record {
  before = [];
  made = [];
  rest = steps_under_way seed (caller_view caller section 0 [] [] [] None);
  all = refl;
  run = refl;
  names = refl;
  begins = refl;
  replies = refl;
}

-- ---- its command has ended

pub stands_ended : (seed : List ℕ) (caller : ℕ) (section : Section) (n : ℕ) (old between new : PlacedLogged) (replies : List Reply) (notes : List Note)
    (waiting : Option Call) (placed : PlacedCalls) (command : Command) (outcome : Option Outcome)
    → IsCallerAfter seed (caller_view caller section n (names_in old) replies notes waiting) placed → slice_get section.commands n ≡ Some command
    → EndsSo (command_steps seed caller section.uid n (names_in old) command.verb) replies old between (next.Ended outcome)
    → names_in new ≡ names_in between
    → IsCallerAfter seed (caller_view caller section (n + 1) (names_in new) [] (notes ++ notes_of_command caller command outcome) waiting) placed
stands_ended seed caller section n old between new replies notes waiting placed command outcome s here ends kept =
    let view = caller_view caller section n (names_in old) replies notes waiting in
    let after = caller_view caller section (n + 1) (names_in new) [] (notes ++ notes_of_command caller command outcome) waiting in
    let begins : Reaches (command_steps seed caller section.uid n (names_in old) command.verb) (entries_of s.made) s.rest =
    subst (λ (at : Option Command). Reaches (steps_of seed view at) (entries_of s.made) s.rest) here s.begins in
    let same = ended_alone _ s.rest outcome (entries_of ends.0) (entries_of s.made) ends.3.0 ends.2 (s.replies ∙ ends.3.1) begins in
    let follows : Reaches (command_steps seed caller section.uid n (names_in old) command.verb) (entries_of s.made) (Done outcome) =
    subst (λ (rest : CommandSteps). Reaches (command_steps seed caller section.uid n (names_in old) command.verb) (entries_of s.made) rest) same.1 begins in
    let run : IsRunSoFar seed caller section (n + 1) (s.before ++ s.made) (notes ++ notes_of_command caller command outcome) =
    run_goes_on seed caller section n command s.before s.made notes outcome s.run here
    (subst (λ (names : List (List ℕ)). Reaches (command_steps seed caller section.uid n names command.verb) (entries_of s.made) (Done outcome)) (sym s.names) follows) in
    let told : names_in (s.before ++ s.made) ≡ names_in new =
    names_in-append s.before s.made
    ∙ ap (λ (names : List (List ℕ)). names_from names (entries_of s.made)) s.names
    ∙ ap (λ (es : History). names_from (names_in old) es) same.0
    ∙ sym (names_from-shown (names_in old) ends.0)
    ∙ sym (names_in-append old (logged_calls ends.0))
    ∙ ap (λ (l : PlacedLogged). names_in l) (sym ends.1)
    ∙ sym kept in
    record {
      before = s.before ++ s.made;
      made = [];
      rest = steps_under_way seed after;
      all = s.all ∙ sym (append-nil (s.before ++ s.made));
      run = run;
      names = told;
      begins = refl;
      replies = refl;
    }

-- ---- it waits for a reply

same_steps : (seed : List ℕ) (caller : CallerView) (before : PlacedCalls) (at : Option Command) → names_in before ≡ caller.names
    → stopping.steps_of seed (runner_view caller.caller caller.section caller.next (logged_calls before) caller.notes) at ≡ steps_of seed caller at
same_steps seed caller before None names = refl
same_steps seed caller before (Some command) names =
    ap (λ (told : List (List ℕ)). command_steps seed caller.caller caller.section.uid caller.next told command.verb) (names_in-shown before ∙ names)

begun_so : (seed : List ℕ) (caller : CallerView) (placed : PlacedCalls) → IsCallerAfter seed caller placed → IsBegunBy seed caller.caller (Some caller.section) placed
begun_so seed caller placed s =
    subst (λ (p : PlacedCalls). IsBegunBy seed caller.caller (Some caller.section) p) (sym s.all)
    (is_begun seed (runner_view caller.caller caller.section caller.next (logged_calls s.before) caller.notes) s.before s.made s.rest
    (record { shown = refl; run = s.run })
    (subst (λ (steps : CommandSteps). Reaches steps (entries_of s.made) s.rest)
    (sym (same_steps seed caller s.before (slice_get caller.section.commands caller.next) s.names)) s.begins))

pub awaits_call : (seed : List ℕ) (caller : ℕ) (section : Section) (n : ℕ) (names : List (List ℕ)) (replies : List Reply) (notes : List Note)
    (waiting : Option Call) (placed : PlacedCalls) (command : Command) (call : Call)
    → IsCallerAfter seed (caller_view caller section n names replies notes waiting) placed → slice_get section.commands n ≡ Some command
    → ((told : History) → replies_of told ≡ replies → next_of (command_steps seed caller section.uid n names command.verb) told ≡ Some (caller, call))
    → Awaits seed (caller_view caller section n names replies notes (Some call)) placed
awaits_call seed caller section n names replies notes waiting placed command call s here next =
    let view = caller_view caller section n names replies notes (Some call) in
    let is_after : IsCallerAfter seed view placed = record {
      before = s.before;
      made = s.made;
      rest = s.rest;
      all = s.all;
      run = s.run;
      names = s.names;
      begins = s.begins;
      replies = s.replies;
    } in
    let its : next_of (command_steps seed caller section.uid n names command.verb) (entries_of s.made) ≡ Some (caller, call) =
    next (entries_of s.made) s.replies in
    let of_all : next_of (steps_from seed caller section.uid n (names_in s.before) notes (command ∷ drop (n + 1) section.commands)) (entries_of s.made) ≡ Some (caller, call) =
    next_of-and_then (names_in s.before) (command_steps seed caller section.uid n (names_in s.before) command.verb)
    (λ told outcome. steps_from seed caller section.uid (n + 1) told (notes ++ notes_of_command caller command outcome) (drop (n + 1) section.commands))
    (entries_of s.made) (caller, call)
    (ap (λ (told : List (List ℕ)). next_of (command_steps seed caller section.uid n told command.verb) (entries_of s.made)) s.names ∙ its) in
    record {
      begun = begun_so seed view placed is_after;
      comes = ap (λ (p : PlacedCalls). next_of (section_steps seed caller section) (entries_of p)) s.all
          ∙ ap (λ (es : History). next_of (section_steps seed caller section) es) (entries_of-append s.before s.made)
          ∙ next_of-on (section_steps seed caller section) (steps_from seed caller section.uid n (names_in s.before) notes (drop n section.commands))
          (entries_of s.before) (entries_of s.made) s.run
          ∙ ap (λ (left : List Command). next_of (steps_from seed caller section.uid n (names_in s.before) notes left) (entries_of s.made))
          (drop-at n section.commands command here)
          ∙ of_all;
      whole = λ none. absurd (cc none);
      is_after = is_after;
      asks = ap (λ (at : Option Command). next_of (steps_of seed view at) (entries_of s.made)) here ∙ its;
    }

-- ---- all its commands have ended

none_made : (steps rest : CommandSteps) (made : PlacedCalls) → steps ≡ Done None → Reaches steps (entries_of made) rest → made ≡ []
none_made steps rest [] done so = refl
none_made steps rest (x ∷ xs) done so = absurd (subst (λ (s : CommandSteps). Reaches s (entries_of (x ∷ xs)) rest) done so)

all_ended : (commands : List Command) (n : ℕ) → slice_get commands n ≡ None → length commands ≤ n
all_ended commands n none = ⊎_elim
    (λ there. let some = sym none ∙ there.2 in absurd (cc some))
    (λ past. past.0)
    (slice_get_cases commands n).1

pub awaits_none : (seed : List ℕ) (caller : ℕ) (section : Section) (n : ℕ) (names : List (List ℕ)) (replies : List Reply) (notes : List Note)
    (waiting : Option Call) (placed : PlacedCalls)
    → IsCallerAfter seed (caller_view caller section n names replies notes waiting) placed → slice_get section.commands n ≡ None
    → Awaits seed (caller_view caller section n names replies notes None) placed
awaits_none seed caller section n names replies notes waiting placed s here =
    let view = caller_view caller section n names replies notes None in
    let is_after : IsCallerAfter seed view placed = record {
      before = s.before;
      made = s.made;
      rest = s.rest;
      all = s.all;
      run = s.run;
      names = s.names;
      begins = s.begins;
      replies = s.replies;
    } in
    let done : steps_under_way seed view ≡ Done None = ap (λ (at : Option Command). steps_of seed view at) here in
    let none = none_made (steps_under_way seed view) s.rest s.made done s.begins in
    let all : placed ≡ s.before = s.all ∙ ap (λ (l : PlacedCalls). s.before ++ l) none ∙ append-nil s.before in
    let past = all_ended section.commands n here in
    let run : IsRunOfSection seed caller section placed =
    subst (λ (p : PlacedCalls). IsRunOfSection seed caller section p) (sym all) (run_is_whole seed caller section n s.before notes past s.run) in
    record {
      begun = (Done run.0, run.1);
      comes = (next_calls (section_steps seed caller section) (entries_of placed) run.0 run.1).whole;
      whole = λ waits. (
        run,
        notes_are_whole seed caller section n s.before notes past s.run
            ∙ ap (λ (p : PlacedCalls). notes_of_section seed caller section p) (sym all),
      );
      is_after = is_after;
      asks = ap (λ (steps : CommandSteps). next_of steps (entries_of s.made)) done;
    }

-- ---- the reply to the call that it waited for

pub stands_replied : (seed : List ℕ) (caller : ℕ) (section : Section) (n : ℕ) (names : List (List ℕ)) (replies : List Reply) (notes : List Note)
    (call : Call) (reply : Reply) (place : ℕ) (placed : PlacedCalls) (waiting : Option Call)
    → Awaits seed (caller_view caller section n names replies notes (Some call)) placed
    → IsCallerAfter seed (caller_view caller section n names (replies ++ reply ∷ []) notes waiting) (placed ++ (place, entry caller call reply) ∷ [])
stands_replied seed caller section n names replies notes call reply place placed waiting a =
    let view = caller_view caller section n names replies notes (Some call) in
    let s = a.is_after in
    let made = s.made ++ (place, entry caller call reply) ∷ [] in
    let more = asked_next (steps_under_way seed view) s.rest (entries_of s.made) caller call reply s.begins a.asks in
    let several : entries_of made ≡ entries_of s.made ++ entry caller call reply ∷ [] = entries_of-append s.made ((place, entry caller call reply) ∷ []) in
    record {
      before = s.before;
      made = made;
      rest = more.0;
      all = ap (λ (l : PlacedCalls). l ++ (place, entry caller call reply) ∷ []) s.all ∙ append_assoc s.before s.made ((place, entry caller call reply) ∷ []);
      run = s.run;
      names = s.names;
      begins = subst (λ (es : History). Reaches (steps_under_way seed view) es more.0) (sym several) more.1;
      replies = ap replies_of several ∙ map-append (λ (e : MountEntry). e.reply) (entries_of s.made) (entry caller call reply ∷ [])
          ∙ ap (λ (l : List Reply). l ++ reply ∷ []) s.replies;
    }

-- ---- what a caller's functions do, in terms of its fields

pub new_stands : (seed : List ℕ) (caller : ℕ) (section : Section) (listing : PlacedLogged) (listed : List Reply) (notes : List Note) → listing ≡ [] → listed ≡ [] → notes ≡ []
    → IsCallerAfter seed (caller_view caller section 0 (names_in listing) (reverse listed) notes None) []
new_stands seed caller section listing listed notes none unreplied unnoted =
    subst (λ (l : PlacedLogged). IsCallerAfter seed (caller_view caller section 0 (names_in l) (reverse listed) notes None) []) (sym none)
    (subst (λ (l : List Reply). IsCallerAfter seed (caller_view caller section 0 [] (reverse l) notes None) []) (sym unreplied)
    (subst (λ (l : List Note). IsCallerAfter seed (caller_view caller section 0 [] [] l None) []) (sym unnoted) (stands_new seed caller section)))

pub none_left : (seed : List ℕ) (caller : ℕ) (section : Section) (n : ℕ) (names : List (List ℕ)) (replies : List Reply) (notes : List Note)
    (waiting after : Option Call) (self : CallerView) (placed : PlacedCalls) → caller_view caller section n names replies notes waiting ≡ self
    → length section.commands ≤ n → after ≡ None → IsCallerAfter seed self placed → Awaits seed (caller_view caller section n names replies notes after) placed
none_left seed caller section n names replies notes waiting after self placed is past none so =
    subst (λ (w : Option Call). Awaits seed (caller_view caller section n names replies notes w) placed) (sym none)
    (awaits_none seed caller section n names replies notes waiting placed (subst (λ (v : CallerView). IsCallerAfter seed v placed) (sym is) so) (slice_get_past section.commands n past))

pub call_next : (seed : List ℕ) (caller : ℕ) (section : Section) (n : ℕ) (old new : PlacedLogged) (listed left : List Reply) (notes : List Note)
    (waiting after : Option Call) (self : CallerView) (placed : PlacedCalls) (command : Command) (it : Next) (call : Call)
    → caller_view caller section n (names_in old) (reverse listed) notes waiting ≡ self → slice_get section.commands n ≡ Some command
    → IsNext caller (command_steps seed caller section.uid n (names_in old) command.verb) (reverse listed) old new it → left ≡ remaining_replies listed it
    → it ≡ next.Call call → after ≡ Some call → IsCallerAfter seed self placed
    → Awaits seed (caller_view caller section n (names_in new) (reverse left) notes after) placed
call_next seed caller section n old new listed left notes waiting after self placed command it call is here next_is leaves call_is waits so =
    let its : IsNext caller (command_steps seed caller section.uid n (names_in old) command.verb) (reverse listed) old new (next.Call call) =
    subst (λ (i : Next). IsNext caller (command_steps seed caller section.uid n (names_in old) command.verb) (reverse listed) old new i) call_is next_is in
    subst (λ (l : PlacedLogged). Awaits seed (caller_view caller section n (names_in l) (reverse left) notes after) placed) (sym its.ends)
    (subst (λ (l : List Reply). Awaits seed (caller_view caller section n (names_in old) (reverse l) notes after) placed) (sym (leaves ∙ ap (remaining_replies listed) call_is))
    (subst (λ (w : Option Call). Awaits seed (caller_view caller section n (names_in old) (reverse listed) notes w) placed) (sym waits)
    (awaits_call seed caller section n (names_in old) (reverse listed) notes waiting placed command call
    (subst (λ (v : CallerView). IsCallerAfter seed v placed) (sym is) so) here its.call)))

pub command_ended : (seed : List ℕ) (caller : ℕ) (section : Section) (n : ℕ) (old between new : PlacedLogged) (listed left : List Reply) (notes more : List Note)
    (waiting : Option Call) (self : CallerView) (placed : PlacedCalls) (command : Command) (it : Next) (outcome : Option Outcome)
    → caller_view caller section n (names_in old) (reverse listed) notes waiting ≡ self → slice_get section.commands n ≡ Some command
    → IsNext caller (command_steps seed caller section.uid n (names_in old) command.verb) (reverse listed) old between it → left ≡ remaining_replies listed it
    → it ≡ next.Ended outcome → names_in new ≡ names_in between → more ≡ notes ++ notes_of_command caller command outcome → IsCallerAfter seed self placed
    → IsCallerAfter seed (caller_view caller section (n + 1) (names_in new) (reverse left) more waiting) placed
command_ended seed caller section n old between new listed left notes more waiting self placed command it outcome is here next_is leaves end_is kept noting so =
    let its : IsNext caller (command_steps seed caller section.uid n (names_in old) command.verb) (reverse listed) old between (next.Ended outcome) =
    subst (λ (i : Next). IsNext caller (command_steps seed caller section.uid n (names_in old) command.verb) (reverse listed) old between i) end_is next_is in
    subst (λ (l : List Reply). IsCallerAfter seed (caller_view caller section (n + 1) (names_in new) (reverse l) more waiting) placed) (sym (leaves ∙ ap (remaining_replies listed) end_is))
    (subst (λ (l : List Note). IsCallerAfter seed (caller_view caller section (n + 1) (names_in new) [] l waiting) placed) (sym noting)
    (stands_ended seed caller section n old between new (reverse listed) notes waiting placed command outcome
    (subst (λ (v : CallerView). IsCallerAfter seed v placed) (sym is) so) here its.ends kept))

pub replied : (seed : List ℕ) (caller : ℕ) (section : Section) (n : ℕ) (names : List (List ℕ)) (listed more : List Reply) (notes : List Note)
    (waiting : Option Call) (self : CallerView) (reply : Reply) → caller_view caller section n names (reverse listed) notes waiting ≡ self → more ≡ reply ∷ listed
    → (placed : PlacedCalls) (place : ℕ) (call : Call) → Awaits seed self placed → self.waiting ≡ Some call
    → IsCallerAfter seed (caller_view caller section n names (reverse more) notes waiting) (placed ++ (place, entry self.caller call reply) ∷ [])
replied seed caller section n names listed more notes waiting self reply is grown placed place call so waits =
    let its : waiting ≡ Some call = ap (λ (v : CallerView). v.waiting) is ∙ waits in
    let before : Awaits seed (caller_view caller section n names (reverse listed) notes (Some call)) placed =
    subst (λ (w : Option Call). Awaits seed (caller_view caller section n names (reverse listed) notes w) placed) its
    (subst (λ (v : CallerView). Awaits seed v placed) (sym is) so) in
    let turned : reverse listed ++ reply ∷ [] ≡ reverse more = sym (ap reverse grown ∙ reverse-append (reply ∷ []) listed) in
    subst (λ (who : ℕ). IsCallerAfter seed (caller_view caller section n names (reverse more) notes waiting) (placed ++ (place, entry who call reply) ∷ []))
    (ap (λ (v : CallerView). v.caller) is)
    (subst (λ (l : List Reply). IsCallerAfter seed (caller_view caller section n names l notes waiting) (placed ++ (place, entry caller call reply) ∷ [])) turned
    (stands_replied seed caller section n names (reverse listed) notes call reply place placed waiting before))

pub taken : {E : Type 0} (seed : List ℕ) (result : Result Unit E) (old between new : CallerView) (reply : Reply)
    → OnOk result ((placed : PlacedCalls) → IsCallerAfter seed between placed → Awaits seed new placed)
    → ((placed : PlacedCalls) (place : ℕ) (call : Call) → Awaits seed old placed → old.waiting ≡ Some call
    → IsCallerAfter seed between (placed ++ (place, entry old.caller call reply) ∷ []))
    → OnOk result ((placed : PlacedCalls) (place : ℕ) (call : Call) → Awaits seed old placed → old.waiting ≡ Some call
    → Awaits seed new (placed ++ (place, entry old.caller call reply) ∷ []))
taken seed (Err error) old between new reply goes is_after = tt
taken seed (Ok done) old between new reply goes is_after = λ placed place call so waits. goes (placed ++ (place, entry old.caller call reply) ∷ []) (is_after placed place call so waits)
