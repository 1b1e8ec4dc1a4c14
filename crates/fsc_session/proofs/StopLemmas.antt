-- A runner that was out of memory: its calls are a beginning of its next command's, and of its section's.
use Rattle.std.proofs.Common.{◌≡◌, ℕ, ◌+◌, List, [], ◌∷◌, ◌++◌, drop, Some, None, refl, ap, sym, ◌∙◌, subst, append-nil}
use Rattle.std.specs.Prelude.{slice_get, Option}
use Rattle.call_history.specs.Placed.{entries_of}
use Rattle.mount_model.specs.History.{History}
use Rattle.mount_model.specs.Port.{PlacedCalls}
use Rattle.script_lang.specs.declared.commands.Section.{Section}
use Rattle.script_lang.specs.declared.commands.Command.{Command}
use Rattle.reply_text.specs.Logged.{PlacedLogged}
use Rattle.reply_text.specs.declared.notes.Note.{Note}
use Rattle.reply_text.specs.declared.outcome.Outcome.{Outcome}
use Rattle.fsc_commands.specs.Steps.{Steps, Reaches, names_from, names_in, and_then}
use Rattle.fsc_commands.specs.Commands.{command_steps}
use Rattle.fsc_commands.specs.CommandSteps.{CommandSteps}
use Rattle.fsc_commands.specs.MadeCalls.{Begun}
use Rattle.fsc_commands.proofs.StepsLemmas.{entries_of-append, names_in-shown, Reaches-on, Reaches-begun}
use Rattle.fsc_session.specs.Meaning.{IsBegunBy}
use Rattle.fsc_session.specs.Runners.{RunnerView, HasRun, runner_view}
use Rattle.fsc_session.specs.Session.{steps_from, section_steps, notes_of_command}
use Rattle.fsc_session.specs.Stopping.{steps_of, next_steps}
use Rattle.fsc_session.proofs.RunLemmas.{drop-at}

-- a beginning of the command at that number is one of the runner's next
pub next_begun : {P : Type 0} {after_calls : PlacedCalls → P → Type 0} {port : P} {most : ℕ} (seed : List ℕ) (command : Command)
    (caller : ℕ) (section : Section) (n : ℕ) (entries : PlacedLogged) (notes : List Note) → slice_get section.commands n ≡ Some command
    → Begun after_calls port most (command_steps seed caller section.uid n (names_in entries) command.verb)
    → Begun after_calls port most (next_steps seed (runner_view caller section n entries notes))
next_begun {after_calls = after_calls} {port = port} {most = most} seed command caller section n entries notes here begun =
    subst (λ (at : Option Command). Begun after_calls port most (steps_of seed (runner_view caller section n entries notes) at)) (sym here) begun

command_begun : (seed : List ℕ) (runner : RunnerView) (told made : PlacedCalls) (rest : CommandSteps) (command : Command) → HasRun seed runner told
    → slice_get runner.section.commands runner.next ≡ Some command → Reaches (steps_of seed runner (Some command)) (entries_of made) rest
    → IsBegunBy seed runner.caller (Some runner.section) (told ++ made)
command_begun seed runner told made rest command has here so =
    let caller = runner.caller in
    let section = runner.section in
    let n = runner.next in
    let notes = runner.notes in
    let names = names_in told in
    let next : List (List ℕ) → Option Outcome → Steps (List Note) =
    λ told outcome. steps_from seed caller section.uid (n + 1) told (notes ++ notes_of_command caller command outcome) (drop (n + 1) section.commands) in
    let steps : List (List ℕ) → CommandSteps = λ names. command_steps seed caller section.uid n names command.verb in
    let after = and_then (names_from names (entries_of made)) rest next in
    let first : Reaches (steps names) (entries_of made) rest =
    subst (λ (ns : List (List ℕ)). Reaches (steps ns) (entries_of made) rest) (ap (λ (l : PlacedLogged). names_in l) has.shown ∙ names_in-shown told) so in
    let behind : Reaches (steps_from seed caller section.uid n names notes (drop n section.commands)) (entries_of made) after =
    subst (λ (left : List Command). Reaches (steps_from seed caller section.uid n names notes left) (entries_of made) after) (sym (drop-at n section.commands command here))
    (Reaches-begun names (steps names) rest next (entries_of made) first) in (
      after,
      subst (λ (es : History). Reaches (section_steps seed caller section) es after) (sym (entries_of-append told made))
          (Reaches-on (section_steps seed caller section) (steps_from seed caller section.uid n names notes (drop n section.commands)) after
          (entries_of told) (entries_of made) has.run behind),
    )

none_begun : (seed : List ℕ) (runner : RunnerView) (told made : PlacedCalls) (rest : CommandSteps) → HasRun seed runner told
    → Reaches (steps_of seed runner None) (entries_of made) rest → IsBegunBy seed runner.caller (Some runner.section) (told ++ made)
none_begun seed runner told [] rest has so =
    subst (λ (placed : PlacedCalls). IsBegunBy seed runner.caller (Some runner.section) placed) (sym (append-nil told)) (_, has.run)
none_begun seed runner told (x ∷ xs) rest has so = absurd so

at_begun : (seed : List ℕ) (runner : RunnerView) (told made : PlacedCalls) (rest : CommandSteps) (at : Option Command) → HasRun seed runner told
    → slice_get runner.section.commands runner.next ≡ at → Reaches (steps_of seed runner at) (entries_of made) rest
    → IsBegunBy seed runner.caller (Some runner.section) (told ++ made)
at_begun seed runner told made rest None has here so = none_begun seed runner told made rest has so
at_begun seed runner told made rest (Some command) has here so = command_begun seed runner told made rest command has here so

-- the commands before the next and a beginning of it are a beginning of the section
pub is_begun : (seed : List ℕ) (runner : RunnerView) (told made : PlacedCalls) (rest : CommandSteps) → HasRun seed runner told
    → Reaches (next_steps seed runner) (entries_of made) rest → IsBegunBy seed runner.caller (Some runner.section) (told ++ made)
is_begun seed runner told made rest has so =
    at_begun seed runner told made rest (slice_get runner.section.commands runner.next) has refl so
