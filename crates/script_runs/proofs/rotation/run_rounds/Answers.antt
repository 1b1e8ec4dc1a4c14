use Rattle.std.proofs.Common.{◌+◌, ◌-◌, map, get_or, refl, ◌∙◌, arith}
use Rattle.std.proofs.lemmas.Option.{slice_get-get_or}
use Rattle.std.proofs.lemmas.List.{length-set, length-map}
use Rattle.fsc_session.specs.Runners.{state_of}
use Rattle.fsc_session.specs.Rotation.{rounds_steps}
use Rattle.script_runs.specs.Callers.{sections_of}
use Rattle.script_runs.proofs.RotationLemmas.{goes_on, retold}
use Rattle.script_runs.proofs.RoundLemmas.{round_begins, round_over, rounds_over}
use Rattle.script_runs.proofs.rotation.run_rounds.Goals as goal

pub turns-init : goal.turns-init
turns-init g c =
    let seed = c.args.seed.now in
    let script = sections_of c.args.runners.now in
    let whole = rounds_steps seed c.args.rounds 0 (map state_of c.args.runners.now) in record {
      count = refl;
      turn = retold g.M.Machine.reaches seed script whole _ _ _ _ c.rounds.runners _
          (λ told. round_begins seed script whole c.rounds.runners told c.args.rounds c.rounds.number c.rounds-test.true)
          c.rounds.invariant;
    }

pub take_turn-requires-clause-asked : goal.take_turn-requires-clause-asked
take_turn-requires-clause-asked g c =
    let below = c.turns-test.true in
    let count = c.turns.invariant.count in
    (c.turns.invariant.turn.rotates.each c.turns.i (get_or c.turns.runners c.turns.i c.index-runners-i.result)
    (slice_get-get_or c.turns.runners c.turns.i c.index-runners-i.result (omega (arith, below, count)))).asked

pub turns-preserved : goal.turns-preserved
turns-preserved g c =
    let below = c.turns-test.true in
    let count = c.turns.invariant.count in
    let seed = c.args.seed.now in
    let next = c.rounds.number + 1 in record {
      count = length-set c.turns.runners c.turns.i c.take_turn.new.runner ∙ count;
      turn = goes_on g.M.Machine.reaches seed (sections_of c.args.runners.now)
          (rounds_steps seed c.args.rounds 0 (map state_of c.args.runners.now)) (rounds_steps seed (c.args.rounds - next) next)
          c.rounds.number c.turns.i c.turns.runners (get_or c.turns.runners c.turns.i c.index-runners-i.result)
          c.take_turn.new.runner _ _
          (slice_get-get_or c.turns.runners c.turns.i c.index-runners-i.result (omega (arith, below, count)))
          c.turns.invariant.turn c.in_ok-mount.ensures;
    }

pub rounds-preserved : goal.rounds-preserved
rounds-preserved g c =
    let above = c.turns-test.false in
    let count = c.turns.invariant.count in
    let seed = c.args.seed.now in
    let script = sections_of c.args.runners.now in
    let whole = rounds_steps seed c.args.rounds 0 (map state_of c.args.runners.now) in
    let next = c.rounds.number + 1 in
    retold g.M.Machine.reaches seed script whole _ _ _ _ c.turns.runners _
    (λ told. round_over seed script whole c.turns.runners told (rounds_steps seed (c.args.rounds - next) next)
    c.rounds.number c.turns.i (omega (arith, above, count))) c.turns.invariant.turn

pub returns-clause-turned : goal.returns-clause-turned
returns-clause-turned g c =
    let above = c.rounds-test.false in
    let below = c.rounds.auto.number-end in
    let seed = c.args.seed.now in
    let script = sections_of c.args.runners.now in
    let whole = rounds_steps seed c.args.rounds 0 (map state_of c.args.runners.now) in
    retold g.M.Machine.reaches seed script whole _ _ _ _ c.rounds.runners _
    (λ told. rounds_over seed script whole c.rounds.runners told c.args.rounds c.rounds.number below above)
    c.rounds.invariant

pub returns-clause-same : goal.returns-clause-same
returns-clause-same g c = c.rounds.invariant.rotates.count ∙ length-map c.args.runners.now (λ runner. runner.section)
