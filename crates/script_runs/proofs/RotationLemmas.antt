-- What holds while callers take turns on one mount, and what they have received in the end.
use Rattle.std.proofs.Common.{◌≡◌, ℕ, ◌+◌, Bool, List, [], ◌++◌, map, take, drop, set, Some, refl, ap, sym, ◌∙◌, subst}
use Rattle.std.specs.Prelude.{slice_get, All}
use Rattle.std.proofs.lemmas.List.Elements.{All-nil}
use Rattle.call_history.specs.Entries.{by, entries_by}
use Rattle.call_history.specs.Placed.{entries_of}
use Rattle.reply_text.specs.Ranges.{EntryIsInRange}
use Rattle.reply_text.specs.Logged.{PlacedLogged, logged_calls, logged_history}
use Rattle.reply_text.specs.declared.notes.Note.{Note}
use Rattle.mount_model.specs.PlainMount.{empty_mount}
use Rattle.mount_model.specs.History.{History}
use Rattle.mount_model.specs.Port.{PlacedCalls}
use Rattle.mount_shared.specs.SerialCalls.{SerialView, SerialAfterCalls, serial_view}
use Rattle.script_lang.specs.declared.commands.Section.{Section}
use Rattle.fsc_commands.specs.Steps.{Steps, Reaches}
use Rattle.fsc_commands.specs.Steps.Steps.{Done}
use Rattle.fsc_session.specs.Asking.{AsksRightly}
use Rattle.fsc_session.specs.ScriptRun.{IsRunOfCaller, notes_by, notes_of}
use Rattle.fsc_session.specs.Running.{RunnerStep}
use Rattle.fsc_session.specs.Runners.{RunnerView, state_of}
use Rattle.fsc_session.specs.Rotation.{Waiting, longest, rotation_steps, round_steps}
use Rattle.fsc_session.proofs.LawLemmas.{played_from}
use Rattle.fsc_session.proofs.ShownRuns.{numbered-shown}
use Rattle.script_runs.specs.Callers.{fresh_runners, noted_by, sections_of, logged_calls_of}
use Rattle.script_runs.specs.InRange.{RangedAfterCalls}
use Rattle.script_runs.specs.RangeLaws.{are_in_range-append}
use Rattle.script_runs.specs.Rotating.{Rotating, TurnOf}
use Rattle.script_runs.specs.Runs.{IsRunBefore, IsSerialRun, IsLogOf}
use Rattle.script_runs.specs.Turns.{Rotates}
use Rattle.script_runs.specs.MountPlaces.{At}
use Rattle.script_runs.proofs.TurnLemmas.{rotates_on, turns_in}
use Rattle.script_runs.proofs.RoundLemmas.{goes_by, stands_on, taken_by}
use Rattle.script_runs.proofs.CallerLemmas.{alike, noted_all, rotates_first, run_of}

module _ {M : Type 0} (reaches : History → M → Type 0) (seed : List ℕ) where
  pub before_all : (whole : Steps (List Waiting)) (script : List Section) (runners : List RunnerView) (mount : At M)
      → runners ≡ fresh_runners 0 script → mount.places ≡ 0 → All AsksRightly script → reaches [] mount.machine
      → Rotating reaches seed (sections_of runners) whole whole (λ j. 0) runners mount
  before_all whole script runners mount is none asked reached_by = record {
    told = [];
    represents = record { placed = refl; given = none; reached_by = reached_by };
    ranged = All-nil EntryIsInRange;
    rotates = rotates_first seed whole script runners is asked;
  }

  -- a runner's command on a port of the mount
  pub turn_by : (mount : At M) (left : ℕ) (old new : RunnerView) (port port' : SerialView M) (mount' : At M)
      (left' before_left : ℕ) (more : Bool) → port ≡ serial_view mount.machine mount.places old.caller left
      → mount'.machine ≡ port'.machine → mount'.places ≡ port'.places
      → RunnerStep (RangedAfterCalls (SerialAfterCalls reaches) port) port' left' before_left seed more old new
      → TurnOf reaches seed mount old mount' new
  turn_by mount left old new port port' mount' left' before_left more is one two stepped =
      let goes = goes_by reaches old.caller left mount stepped.made port' mount' one two
      (subst (λ p. SerialAfterCalls reaches p stepped.made port') is stepped.reached_by_call.reached_by_call) in
      record {
        made = stepped.made;
        goes = goes;
        ranged = stepped.reached_by_call.ranged;
        taken = taken_by (RangedAfterCalls (SerialAfterCalls reaches) port) port' left' before_left seed more old new stepped goes.own;
      }

  pub goes_on : (script : List Section) (whole : Steps (List Waiting)) (last : List Waiting → Steps (List Waiting))
      (n i : ℕ) (runners : List RunnerView) (old new : RunnerView) (mount mount' : At M) → slice_get runners i ≡ Some old
      → Rotating reaches seed script whole
      (round_steps seed n i (map state_of (take i runners)) (map state_of (drop i runners)) last)
      (turns_in n i) runners mount
      → TurnOf reaches seed mount old mount' new
      → Rotating reaches seed script whole
      (round_steps seed n (i + 1) (map state_of (take (i + 1) (set runners i new)))
      (map state_of (drop (i + 1) (set runners i new))) last)
      (turns_in n (i + 1)) (set runners i new) mount'
  goes_on script whole last n i runners old new mount mount' here before turn = record {
    told = before.told ++ turn.made;
    represents = stands_on reaches old.caller before.told turn.made mount mount' before.represents turn.goes;
    ranged = are_in_range-append before.told turn.made before.ranged turn.ranged;
    rotates = rotates_on seed script whole last n i runners old new before.told turn.made here before.rotates turn.taken;
  }

  -- the mount is as before if the rotation is stated in other terms
  pub retold : (script : List Section) (whole rest rest' : Steps (List Waiting)) (turns turns' : ℕ → ℕ)
      (runners : List RunnerView) (mount : At M)
      → ((told : PlacedCalls) → Rotates seed script whole rest turns runners told
      → Rotates seed script whole rest' turns' runners told)
      → Rotating reaches seed script whole rest turns runners mount
      → Rotating reaches seed script whole rest' turns' runners mount
  retold script whole rest rest' turns turns' runners mount on r =
      record { told = r.told; represents = r.represents; ranged = r.ranged; rotates = on r.told r.rotates }

module _ {M : Type 0} (reaches : History → M → Type 0) (lawful : History → Type 0)
    (law : (h : History) (m : M) → reaches h m → lawful h) (seed : List ℕ) (script : List Section)
    (whole : Steps (List Waiting)) (runners : List RunnerView) (mount : At M)
    (rounds : ℕ) (all : rounds ≡ longest script)
    (ended : Rotating reaches seed script whole (Done (map state_of runners)) (λ j. rounds) runners mount) where
  pub is_serial : whole ≡ rotation_steps seed script → IsSerialRun lawful seed script (entries_of ended.told)
  is_serial is =
      let order : Reaches (rotation_steps seed script) (entries_of ended.told) (Done (map state_of runners)) =
      subst (λ s. Reaches s (entries_of ended.told) (Done (map state_of runners))) is ended.rotates.order in
      record {
        run = record {
          lawfully = law (entries_of ended.told) mount.machine ended.represents.reached_by;
          callers = λ c. subst (IsRunOfCaller seed c (slice_get script c)) (ap (by c) ended.represents.placed)
              (run_of seed script whole runners ended.told rounds all ended.rotates c);
        };
        order = (map state_of runners, order);
        serial = λ legal never.
            played_from empty_mount (rotation_steps seed script) (entries_of ended.told) (map state_of runners) order
            legal never;
      }

  -- the shown entries of all callers are those of the history
  pub told_history : (c : ℕ)
      → by c (logged_calls_of (λ (r : RunnerView). r.entries) runners) ≡ entries_by c (logged_history (entries_of ended.told))
  told_history c =
      alike (λ (r : RunnerView). r.entries) ended.told runners (λ j r here. (ended.rotates.each j r here).run.shown)
      ended.rotates.others c
      ∙ ap (by c) (ap logged_calls ended.represents.placed ∙ sym (numbered-shown 0 (entries_of ended.told)))

  -- and noted what its run's notes are
  pub noted_history : noted_by runners ≡ notes_of seed script (entries_of ended.told)
  noted_history =
      noted_all seed script whole runners ended.told rounds all ended.rotates
      ∙ ap (notes_by seed 0 script) ended.represents.placed

-- ---- without the machine

pub told_alone : (Led : History → Type 0) (IsRun : List ℕ → List Section → History → Type 0) (seed : List ℕ)
    (script : List Section) (told : PlacedLogged) (notes : List Note)
    → IsLogOf (IsRunBefore Led IsRun) seed script told notes → IsLogOf IsRun seed script told notes
told_alone Led IsRun seed script told notes ran = record {
  history = ran.history;
  run = ran.run.0;
  ranged = ran.ranged;
  in_place = ran.in_place;
  noted = ran.noted;
}
