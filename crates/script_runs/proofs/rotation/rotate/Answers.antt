use Rattle.std.proofs.Common.{◌≤◌, [], length, map, ap, ap₂, sym, ◌∙◌, subst}
use Rattle.call_history.specs.Entries.{by}
use Rattle.call_history.specs.Placed.{entries_of}
use Rattle.reply_text.specs.Logged.{logged_history}
use Rattle.fsc_commands.specs.Steps.Steps.{Done}
use Rattle.fsc_session.specs.Runners.{RunnerView, state_of}
use Rattle.fsc_session.specs.ScriptRun.{notes_of}
use Rattle.fsc_session.specs.Rotation.{fresh, longest, rounds_steps}
use Rattle.fsc_session.proofs.Asked.{spelled-few, spelled-asked}
use Rattle.script_runs.specs.Callers.{fresh_runners, noted_by, sections_of, logged_calls_of}
use Rattle.script_runs.specs.Rotating.{Rotating}
use Rattle.script_runs.specs.Runs.{IsSerialRun}
use Rattle.script_runs.specs.MountPlaces.{at}
use Rattle.script_runs.proofs.CallerLemmas.{fresh_sections, fresh_states}
use Rattle.script_runs.proofs.RotationLemmas.{before_all, is_serial, told_history, noted_history}
use Rattle.script_runs.proofs.RoundLemmas.{written_back}
use Rattle.script_runs.proofs.rotation.rotate.Goals as goal

pub fresh_runners-requires : goal.fresh_runners-requires
fresh_runners-requires g c =
    subst (λ sections. length sections ≤ 8) (sym c.as_slice-sections.ensures) (spelled-few c.args.script.now c.requires.spelled)

pub run_rounds-requires-clause-begins : goal.run_rounds-requires-clause-begins
run_rounds-requires-clause-begins g c =
    before_all g.M.Machine.reaches c.args.seed.now _ c.args.script.now _ (at c.new.result.machine c.new.result.places)
    (c.as_mut_slice.ensures.value ∙ c.in_ok-runners.ensures ∙ ap (fresh_runners 0) c.as_slice-sections.ensures)
    c.new.ensures.places
    (spelled-asked c.args.script.now c.requires.spelled)
    (subst (λ m. g.M.Machine.reaches [] m) (sym c.new.ensures.machine) c.requires.reaches)

pub returns : goal.returns
returns g c =
    let seed = c.args.seed.now in
    let runners = c.in_ok-runners.runners.items in
    let made = c.in_ok-runners.ensures ∙ ap (fresh_runners 0) c.as_slice-sections.ensures in
    let same = ap sections_of made ∙ fresh_sections 0 c.args.script.now in
    let all = c.longest.ensures ∙ ap longest (c.as_slice-sections.ensures ∙ sym same) in
    let whole = ap₂ (λ k states. rounds_steps seed k 0 states) all
    (ap (map state_of) made ∙ fresh_states 0 c.args.script.now ∙ ap (map fresh) (sym same)) in
    let before = c.as_mut_slice.ensures.value in
    let after = c.run_rounds.new.runners in
    let mount = at c.in_ok-mount.mount.machine c.in_ok-mount.mount.places in
    let reaches = g.M.Machine.reaches in
    let ended = subst (λ old. Rotating reaches seed (sections_of old) (rounds_steps seed c.longest.result 0 (map state_of old))
    (Done (map state_of after)) (λ j. c.longest.result) after mount) before c.in_ok-mount.ensures.turned in
    let back = written_back c.in_ok-runners.runners.len after runners (c.in_ok-mount.ensures.same ∙ ap length before)
    (sym c.in_ok-runners.runners.ok.0) in
    let lawful = g.M.Machine.lawful in
    let law = g.met.M.Machine.reaches_lawful in
    let start = rounds_steps seed c.longest.result 0 (map state_of runners) in record {
      history = entries_of ended.told;
      run = (
        subst (λ script. IsSerialRun lawful seed script (entries_of ended.told)) same
            (is_serial reaches lawful law seed (sections_of runners) start after mount c.longest.result all ended whole),
        ended.represents.reached_by,
      );
      ranged = ended.ranged;
      in_place = c.in_ok-sort_by_place.ensures.history (logged_history (entries_of ended.told))
          (λ caller. ap (λ told. by caller told)
          (c.in_ok-told.ensures.entries ∙ ap (logged_calls_of (λ (r : RunnerView). r.entries)) back)
          ∙ told_history reaches lawful law seed (sections_of runners) start after mount c.longest.result all ended caller);
      noted = c.in_ok-told.ensures.notes
          ∙ ap noted_by back
          ∙ noted_history reaches lawful law seed (sections_of runners) start after mount c.longest.result all ended
          ∙ ap (λ script. notes_of seed script (entries_of ended.told)) same;
    }
