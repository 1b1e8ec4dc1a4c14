use Rattle.std.proofs.Common.{◌≡◌, ◌+◌, ◌-◌, length, map, take, drop}
use Rattle.fsc_session.specs.Runners.{state_of}
use Rattle.fsc_session.specs.Rotation.{round_steps, rounds_steps}
use Rattle.script_runs.specs.Callers.{sections_of}
use Rattle.script_runs.specs.Rotating.{Rotating}
use Rattle.script_runs.specs.MountPlaces.{at}
use Rattle.script_runs.proofs.TurnLemmas.{turns_in}
use Rattle.script_runs.proofs.rotation.run_rounds.Given as goal

abbrev pub invariant-turns : goal.invariant-turns
invariant-turns g l = record {
  count : length l.runners ≡ l.i-end;
  turn : Rotating g.M.Machine.reaches l.seed (sections_of l.fn.runners) (rounds_steps l.seed l.rounds 0 (map state_of l.fn.runners))
      (round_steps l.seed l.number l.i (map state_of (take l.i l.runners)) (map state_of (drop l.i l.runners)) (rounds_steps l.seed (l.rounds - (l.number + 1)) (l.number + 1)))
      (turns_in l.number l.i) l.runners (at l.mount.machine l.mount.places);
}

abbrev pub invariant-rounds : goal.invariant-rounds
invariant-rounds g l =
    Rotating g.M.Machine.reaches l.seed (sections_of l.fn.runners) (rounds_steps l.seed l.rounds 0 (map state_of l.fn.runners))
    (rounds_steps l.seed (l.rounds - l.number) l.number (map state_of l.runners)) (λ j. l.number) l.runners (at l.mount.machine l.mount.places)
