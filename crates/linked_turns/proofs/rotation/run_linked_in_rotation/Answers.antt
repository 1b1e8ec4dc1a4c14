use Rattle.std.proofs.Common.{◌<◌, ◌≤◌, ◌^◌, [], arith, length, map, ap, ap₂, sym, ◌∙◌, subst}
use Rattle.call_history.specs.Entries.{by}
use Rattle.call_history.specs.Placed.{entries_of}
use Rattle.reply_text.specs.Logged.{logged_history}
use Rattle.fsc_commands.specs.Steps.Steps.{Done}
use Rattle.fsc_session.specs.Runners.{state_of}
use Rattle.fsc_session.specs.Rotation.{fresh, longest, rounds_steps}
use Rattle.fsc_session.proofs.Asked.{spelled-few, spelled-asked}
use Rattle.linked_turns.specs.LinkedRuns.{IsLinkedLogOf}
use Rattle.linked_turns.specs.Callers.{even_logged_calls, fresh_views, odd_logged_calls, runners_of, view_of}
use Rattle.script_runs.specs.Callers as runs
use Rattle.script_runs.specs.Callers.{noted_by, logged_calls_of}
use Rattle.script_runs.specs.MountPlaces.{at}
use Rattle.script_runs.proofs.CallerLemmas.{fresh_sections, fresh_states}
use Rattle.script_runs.proofs.RoundLemmas.{written_back}
use Rattle.linked_turns.specs.Turns.{Rotating, sections_of, states_of}
use Rattle.linked_turns.proofs.EndLemmas.{before_all, fresh_callers, tells_linked, even_history, odd_history}
use Rattle.linked_turns.proofs.rotation.run_linked_in_rotation.Goals as goal

pub fresh_runners-requires : goal.fresh_runners-requires
fresh_runners-requires g c =
    subst (λ sections. length sections ≤ 8) (sym c.as_slice-sections.ensures) (spelled-few c.args.script.now c.requires.spelled)

pub run_rounds-requires-clause-begins : goal.run_rounds-requires-clause-begins
run_rounds-requires-clause-begins g c =
    before_all g.M.Machine.reaches g.N.Machine.reaches c.args.seed.now _ c.args.script.now _
    (at c.new.result.machine c.new.result.places) (at c.new-2.result.machine c.new-2.result.places)
    (ap (map view_of) c.as_mut_slice.ensures.value ∙ c.in_ok-runners.ensures ∙ ap (fresh_views 0) c.as_slice-sections.ensures)
    c.new.ensures.places c.new-2.ensures.places
    (spelled-asked c.args.script.now c.requires.spelled)
    (subst (λ m. g.M.Machine.reaches [] m) (sym c.new.ensures.machine) c.requires.reaches_even)
    (subst (λ m. g.N.Machine.reaches [] m) (sym c.new-2.ensures.machine) c.requires.reaches_odd)

pub returns : goal.returns
returns g c =
    let runners = c.in_ok-runners.runners.items in
    let made = c.in_ok-runners.ensures ∙ ap (fresh_views 0) c.as_slice-sections.ensures in
    let fresh_ones = fresh_callers 0 c.args.script.now runners made in
    let same = ap runs.sections_of fresh_ones ∙ fresh_sections 0 c.args.script.now in
    let all = c.longest.ensures ∙ ap longest (c.as_slice-sections.ensures ∙ sym same) in
    let whole = ap₂ (λ k states. rounds_steps c.args.seed.now k 0 states) all
    (ap (map state_of) fresh_ones ∙ fresh_states 0 c.args.script.now ∙ ap (map fresh) (sym same)) in
    let before = c.as_mut_slice.ensures.value in
    let after = c.run_rounds.new.runners in
    let mounts = c.in_ok-_mounts._mounts in
    let even = at mounts.even.machine mounts.even.places in
    let odd = at mounts.odd.machine mounts.odd.places in
    let ended = subst (λ old. Rotating g.M.Machine.reaches g.N.Machine.reaches c.args.seed.now (sections_of old) (rounds_steps c.args.seed.now c.longest.result 0 (states_of old))
    (Done (states_of after)) (λ j. c.longest.result) after even odd) before c.in_ok-_mounts.ensures.turned in
    let back = written_back c.in_ok-runners.runners.len after runners (c.in_ok-_mounts.ensures.same ∙ ap length before)
    (sym c.in_ok-runners.runners.ok.0) in
    let start = rounds_steps c.args.seed.now c.longest.result 0 (states_of runners) in
    let sections = sections_of runners in
    let law_0 = g.met.M.Machine.reaches_lawful in
    let law_1 = g.met.N.Machine.reaches_lawful in
    let evens = c.sort_by_place.new.entries in
    let odds = c.sort_by_place-2.new.entries in
    subst (λ script. IsLinkedLogOf g.M.Machine.lawful g.N.Machine.lawful c.args.seed.now script c.sort_by_place.new.entries.items c.sort_by_place-2.new.entries.items c.in_ok-told.told.notes.items) same
    (tells_linked g.M.Machine.reaches g.N.Machine.reaches g.M.Machine.lawful g.N.Machine.lawful law_0 law_1 c.args.seed.now sections start after even odd c.longest.result all ended
    c.sort_by_place.new.entries.items c.sort_by_place-2.new.entries.items c.in_ok-told.told.notes.items whole
    (c.in_ok-sort_by_place.ensures.history (logged_history (entries_of ended.even))
    (λ caller. ap (λ told. by caller told) (c.in_ok-told.ensures.even ∙ ap (logged_calls_of even_logged_calls) back)
    ∙ even_history g.M.Machine.reaches g.N.Machine.reaches g.M.Machine.lawful g.N.Machine.lawful law_0 law_1 c.args.seed.now sections start after even odd c.longest.result all ended caller))
    (c.in_ok-sort_by_place-2.ensures.history (logged_history (entries_of ended.odd))
    (λ caller. ap (λ told. by caller told) (c.in_ok-told.ensures.odd ∙ ap (logged_calls_of odd_logged_calls) back)
    ∙ odd_history g.M.Machine.reaches g.N.Machine.reaches g.M.Machine.lawful g.N.Machine.lawful law_0 law_1 c.args.seed.now sections start after even odd c.longest.result all ended caller))
    (c.in_ok-told.ensures.notes ∙ ap (λ callers. noted_by (runners_of callers)) back)
    (let few : length evens.items < 2 ^ 64 = let long = evens.ok.0 in let held = evens.ok.1 in let small = evens.small in omega (arith, long, held, small) in few)
    (let few : length odds.items < 2 ^ 64 = let long = odds.ok.0 in let held = odds.ok.1 in let small = odds.small in omega (arith, long, held, small) in few))
