-- A run goes on by one command.
use Rattle.std.proofs.Common.{◌≡◌, ◌≢◌, ◌<◌, leb, get_or, ℕ, suc, ◌+◌, List, [], ◌∷◌, ◌++◌, length, drop, Some, refl, ap, ap₂, sym, ◌∙◌, subst, ⊎_elim, arith, drop_of_length-le, length-append}
use Rattle.std.specs.Prelude.{Bool, true, false, ◌≤◌, ◌*◌, slice_get, Option, unwrap_or}
use Rattle.std.proofs.Math.Seq.{drop-cons}
use Rattle.std.proofs.lemmas.Option.{slice_get_within, get_or_from_slice_get, slice_get_cases, slice_get_read}
use Rattle.std.proofs.lemmas.Bool.{cases_Bool, leb-true, leb-false}
use Rattle.std.proofs.lemmas.List.Elements.{All-get_or}
use Rattle.script_lang.specs.CommandTasks.{IsAskable}
use Rattle.script_lang.specs.declared.commands.Section.{Section}
use Rattle.script_lang.specs.declared.commands.Command.{Command}
use Rattle.mount_model.specs.Port.{PlacedCalls}
use Rattle.call_history.specs.Placed.{entries_of}
use Rattle.fsc_commands.specs.Steps.{Reaches, names_from, names_in}
use Rattle.fsc_commands.specs.Steps.Steps.{Done}
use Rattle.fsc_session.specs.Asking.{AsksRightly}
use Rattle.fsc_commands.specs.Commands.{command_steps}
use Rattle.reply_text.specs.declared.notes.Note.{Note}
use Rattle.reply_text.specs.declared.outcome.Outcome.{Outcome}
use Rattle.fsc_session.specs.Session.{steps_from, section_steps, notes_of_command, notes_of_section, IsRunOfSection, IsRunSoFar}
use Rattle.reply_text.specs.Logged.{PlacedLogged, logged_calls}
use Rattle.fsc_session.specs.Running.{RunnerStep, StepMakes}
use Rattle.fsc_session.specs.PortRuns.{RunSoFar}
use Rattle.fsc_session.specs.Runners.{RunnerView, runner_view}
use Rattle.fsc_commands.specs.MadeCalls.{MadeCalls}
use Rattle.fsc_commands.specs.declared.TheConstants.{MAX_CALLS}
use Rattle.fsc_commands.proofs.StepsLemmas.{entries_of-append, names_in-append, names_in-shown, logged_calls-append, Reaches-on, Reaches-and_then, value_reached}

pub drop-at : {A : Type 0} (n : ℕ) (xs : List A) (x : A) → slice_get xs n ≡ Some x → drop n xs ≡ x ∷ drop (n + 1) xs
drop-at {A} n xs x here =
    let within = slice_get_within xs n x here in
    let next : suc n ≡ n + 1 = omega arith in
    drop-cons xs n x within
    ∙ ap₂ (λ (y : A) (m : ℕ). y ∷ drop m xs) (get_or_from_slice_get xs n x x here) next

-- by one command more
pub run_goes_on : (seed : List ℕ) (caller : ℕ) (section : Section) (n : ℕ) (command : Command) (placed made : PlacedCalls) (notes : List Note) (outcome : Option Outcome)
    → IsRunSoFar seed caller section n placed notes → slice_get section.commands n ≡ Some command
    → Reaches (command_steps seed caller section.uid n (names_in placed) command.verb) (entries_of made) (Done outcome)
    → IsRunSoFar seed caller section (n + 1) (placed ++ made) (notes ++ notes_of_command caller command outcome)
run_goes_on seed caller section n command placed made notes outcome so here more =
    let uid = section.uid in
    let names = names_in placed in
    let after = notes ++ notes_of_command caller command outcome in
    let then_it : Reaches (steps_from seed caller uid n names notes (command ∷ drop (n + 1) section.commands)) (entries_of made)
    (steps_from seed caller uid (n + 1) (names_from names (entries_of made)) after (drop (n + 1) section.commands)) =
    Reaches-and_then names (command_steps seed caller uid n names command.verb)
    (λ told outcome. steps_from seed caller uid (n + 1) told (notes ++ notes_of_command caller command outcome) (drop (n + 1) section.commands)) (entries_of made) outcome more in
    let whole = Reaches-on (section_steps seed caller section) (steps_from seed caller uid n names notes (drop n section.commands)) _ (entries_of placed) (entries_of made) so
    (subst (λ (rest : List Command). Reaches (steps_from seed caller uid n names notes rest) (entries_of made)
    (steps_from seed caller uid (n + 1) (names_from names (entries_of made)) after (drop (n + 1) section.commands))) (sym (drop-at n section.commands command here)) then_it) in
    subst (λ (es : _). Reaches (section_steps seed caller section) es (steps_from seed caller uid (n + 1) (names_in (placed ++ made)) after (drop (n + 1) section.commands)))
    (sym (entries_of-append placed made))
    (subst (λ (told : List (List ℕ)). Reaches (section_steps seed caller section) (entries_of placed ++ entries_of made) (steps_from seed caller uid (n + 1) told after (drop (n + 1) section.commands)))
    (sym (names_in-append placed made)) whole)

-- the command at a number below the last
pub there : (read commands : List Command) (n : ℕ) (command : Command) → read ≡ commands → n ≤ length commands → n ≢ length read
    → command ≡ get_or read n command → slice_get commands n ≡ Some command
there read commands n command same within differ is =
    let long = ap length same in
    subst (λ (xs : List Command). slice_get xs n ≡ Some command) same (slice_get_read read (length read) n command refl (below n (length read) differ (omega (arith, long, within))) is)
  where
    below : (a b : ℕ) → a ≢ b → a ≤ b → a < b
    below a b differ low = ⊎_elim (λ (lt : leb (suc a) b ≡ true). let l = leb-true (suc a) b lt in omega (arith, l))
        (λ (ge : leb (suc a) b ≡ false). let g = leb-false (suc a) b ge in absurd (differ (omega (arith, g, low)))) (cases_Bool (leb (suc a) b))

-- words can ask for it, as for each of its section
pub asked_there : (section : Section) (n : ℕ) (command : Command) → AsksRightly section
    → slice_get section.commands n ≡ Some command → IsAskable command.verb
asked_there section n command asked here =
    subst (λ (it : Command). IsAskable it.verb) (get_or_from_slice_get section.commands n command command here)
    (All-get_or (λ (it : Command). IsAskable it.verb) section.commands n command
    (slice_get_within section.commands n command here) asked)

-- a command that was made is a step of its runner
pub stepped : {P : Type 0} (after_calls : PlacedCalls → P → Type 0) (port : P) (left before_left : ℕ) (seed : List ℕ) (command : Command) (outcome : Option Outcome)
    (caller : ℕ) (section : Section) (n : ℕ) (entries entries' : PlacedLogged) (notes notes' : List Note) → slice_get section.commands n ≡ Some command
    → notes' ≡ notes ++ notes_of_command caller command outcome
    → MadeCalls after_calls port left before_left MAX_CALLS (command_steps seed caller section.uid n (names_in entries) command.verb) outcome entries entries'
    → RunnerStep after_calls port left before_left seed true (runner_view caller section n entries notes) (runner_view caller section (n + 1) entries' notes')
stepped after_calls port left before_left seed command outcome caller section n entries entries' notes notes' here noting made = record {
  made = made.made;
  reached_by_call = made.reached_by_call;
  grown = made.grown;
  few = made.few;
  counted = made.counted;
  caller = refl;
  section = refl;
  step = (command, here, refl, (outcome, made.follows, noting));
  run = λ placed so. record {
    shown = made.grown ∙ ap (λ (l : PlacedLogged). l ++ logged_calls made.made) so.shown ∙ sym (logged_calls-append placed made.made);
    run = subst (λ (ns : List Note). IsRunSoFar seed caller section (n + 1) (placed ++ made.made) ns) (sym noting)
        (run_goes_on seed caller section n command placed made.made notes outcome so.run here
        (subst (λ (names : List (List ℕ)). Reaches (command_steps seed caller section.uid n names command.verb) (entries_of made.made) (Done outcome))
        (ap (λ (l : PlacedLogged). names_in l) so.shown ∙ names_in-shown placed) made.follows));
  };
}

-- a run of all commands is a run of the section
pub run_is_whole : (seed : List ℕ) (caller : ℕ) (section : Section) (n : ℕ) (placed : PlacedCalls) (notes : List Note) → length section.commands ≤ n
    → IsRunSoFar seed caller section n placed notes → IsRunOfSection seed caller section placed
run_is_whole seed caller section n placed notes all so =
    let none : drop n section.commands ≡ [] = drop_of_length-le section.commands all in
    (notes, subst (λ (rest : List Command). Reaches (section_steps seed caller section) (entries_of placed) (steps_from seed caller section.uid n (names_in placed) notes rest)) none so)

-- and has its notes
pub notes_are_whole : (seed : List ℕ) (caller : ℕ) (section : Section) (n : ℕ) (placed : PlacedCalls) (notes : List Note) → length section.commands ≤ n
    → IsRunSoFar seed caller section n placed notes → notes ≡ notes_of_section seed caller section placed
notes_are_whole seed caller section n placed notes all so =
    let none : drop n section.commands ≡ [] = drop_of_length-le section.commands all in
    let run : Reaches (section_steps seed caller section) (entries_of placed) (Done notes) =
    subst (λ (rest : List Command). Reaches (section_steps seed caller section) (entries_of placed) (steps_from seed caller section.uid n (names_in placed) notes rest)) none so in
    sym (ap (λ (o : Option (List Note)). unwrap_or o []) (value_reached (section_steps seed caller section) (entries_of placed) notes run))

-- ---- what a caller's steps add up to

-- by one step more
pub so_far_goes_on : {P : Type 0} (after_calls : P → PlacedCalls → P → Type 0)
    (by_more : (first second third : P) (e f : PlacedCalls) → after_calls first e second → after_calls second f third → after_calls first (e ++ f) third)
    (first second third : P) (left between before_left : ℕ) (seed : List ℕ) (more : Bool) (old new : RunnerView)
    → RunSoFar (after_calls first) second between before_left seed old → RunnerStep (after_calls second) third left between seed more old new
    → RunSoFar (after_calls first) third left before_left seed new
so_far_goes_on after_calls by_more first second third left between before_left seed more old new so made =
    let counted = so.counted in
    let counted' = made.counted in
    let sum = length-append so.placed made.made in
    record {
      placed = so.placed ++ made.made;
      reached_by_call = by_more first second third so.placed made.made so.reached_by_call made.reached_by_call;
      has_run = made.run so.placed so.has_run;
      counted = omega (arith, counted, counted', sum);
    }

-- if a command is left, a step makes it
pub next_after : (seed : List ℕ) (more : Bool) (old new : RunnerView) (made : PlacedCalls) → StepMakes seed more old new made
    → old.next < length old.section.commands → new.next ≡ old.next + 1
next_after seed true old new made so below = so.2
next_after seed false old new made so below = ⊎_elim
    (λ there. let none = sym there.2 ∙ so.2 in absurd (cc none))
    (λ past. let over = past.0 in absurd (omega (arith, over, below)))
    (slice_get_cases old.section.commands old.next).1
