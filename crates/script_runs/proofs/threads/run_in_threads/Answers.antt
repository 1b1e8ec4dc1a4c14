use Rattle.std.proofs.Common.{◌≡◌, ◌≤◌, length, refl, ap, sym, subst, arith}
use Rattle.std.specs.Prelude.{All}
use Rattle.fsc_commands.specs.declared.TheConstants.{MAX_CALLS}
use Rattle.fsc_session.specs.Asking.{AsksRightly}
use Rattle.fsc_session.proofs.Asked.{spelled-few, spelled-asked}
use Rattle.reply_text.specs.Logged.{logged_history}
use Rattle.turn_lock.specs.Passes.{merged_entries}
use Rattle.mount_shared.specs.SharedCalls.{MountPass}
use Rattle.script_runs.specs.Passes.{calls_of}
use Rattle.script_runs.specs.Threaded.{HaveRun}
use Rattle.script_runs.proofs.RangeLemmas.{in_range-merged}
use Rattle.script_runs.proofs.PassLemmas.{first_runs, positive}
use Rattle.script_runs.proofs.ThreadLemmas.{tells_lawful, told_history}
use Rattle.script_runs.proofs.threads.run_in_threads.Goals as goal

pub overflow_cast-sections : goal.overflow_cast-sections
overflow_cast-sections g c =
    let few = subst (λ sections. length sections ≤ 8) (sym c.as_slice-sections.ensures) (spelled-few c.args.script.now c.requires.spelled) in
    omega (arith, few)

pub run_all-requires-clause-can_run : goal.run_all-requires-clause-can_run
run_all-requires-clause-can_run g c κs within =
    first_runs MAX_CALLS c.in_ok-shared.shared c.as_slice-sections.result.now c.in_ok-shared.pass _ c.in-Some.calls c.in_ok-shared.ensures.pass refl
    c.in-Some.ensures.some.0 (positive _ c.if-is_empty.ensures)
    (subst (All AsksRightly) (sym c.as_slice-sections.ensures) (spelled-asked c.args.script.now c.requires.spelled))

pub returns : goal.returns
returns g c =
    let old = c.in_ok-shared.pass in
    let new = c.in_ok-pass.pass in
    let told = c.in_ok-pass.told in
    let history = merged_entries new in
    let ran : HaveRun c.args.seed.now old c.args.script.now new told.entries.items told.notes.items =
    subst (λ sections. HaveRun c.args.seed.now old sections new told.entries.items told.notes.items) c.as_slice-sections.ensures c.in_ok-pass.ensures in
    let first : old.who ≡ 0 = ap (λ (pass : MountPass). pass.who) c.in_ok-shared.ensures.pass in
    tells_lawful g.M.Machine.lawful c.args.seed.now c.args.script.now old new told.entries.items told.notes.items history ran first c.end.ensures.callers
    c.sort_by_place.new.entries.items
    (c.in_ok-sort_by_place.ensures.history (logged_history history)
    (told_history g.M.Machine.lawful c.args.seed.now c.args.script.now old new told.entries.items told.notes.items history ran first c.end.ensures.callers))
    c.end.ensures.lawful (in_range-merged (calls_of new) ran.ranged)
