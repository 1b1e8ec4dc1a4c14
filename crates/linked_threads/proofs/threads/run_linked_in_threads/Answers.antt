use Rattle.std.proofs.Common.{◌≡◌, ℕ, ◌<◌, ◌^◌, arith, true, eqb-true, length, sym, subst}
use Rattle.std.specs.Prelude.{◌==◌}
use Rattle.reply_text.specs.Logged.{logged_history}
use Rattle.turn_lock.specs.Passes.{merged_entries}
use Rattle.linked_threads.specs.LinkedThreads.{IsLinkedLogOfCalls}
use Rattle.linked_threads.specs.Threaded.{CanRunOnBoth, HaveRun, both}
use Rattle.script_runs.specs.Passes.{calls_of}
use Rattle.script_runs.proofs.PassLemmas.{positive}
use Rattle.script_runs.proofs.RangeLemmas.{in_range-merged}
use Rattle.linked_threads.proofs.EndLemmas.{nobody_runs, tells_linked, told_even, told_odd}
use Rattle.linked_threads.proofs.threads.run_linked_in_threads.Goals as goal

nobody : (n : ℕ) → true ≡ (n == 0) → n ≡ 0
nobody n is = eqb-true n 0 (sym is)

pub returns-then-is_empty : goal.returns-then-is_empty
returns-then-is_empty g c =
    nobody_runs g.M.Machine.lawful g.N.Machine.lawful c.args.seed.now c.args.script.now c.run_no_caller.result.even.items c.run_no_caller.result.odd.items c.run_no_caller.result.notes.items
    (subst (λ sections. length sections ≡ 0) c.as_slice-sections.ensures (nobody _ c.if-is_empty.ensures))
    c.run_no_caller.ensures.none.0 c.run_no_caller.ensures.none.1 c.run_no_caller.ensures.none.2 c.run_no_caller.ensures.lawful_even c.run_no_caller.ensures.lawful_odd

pub share-requires-clause-some : goal.share-requires-clause-some
share-requires-clause-some g c =
    subst (λ sections. 0 < length sections) c.as_slice-sections.ensures (positive _ c.if-is_empty.ensures)

pub run_all-requires-clause-can_run : goal.run_all-requires-clause-can_run
run_all-requires-clause-can_run g c κs within =
    subst (CanRunOnBoth (both c.in_ok-shared.shared.even c.in_ok-shared.shared.odd)
    (both c.in_ok-shared.passes.even c.in_ok-shared.passes.odd)) (sym c.as_slice-sections.ensures) c.in_ok-shared.ensures.can_run

pub returns : goal.returns
returns g c =
    let seed = c.args.seed.now in
    let script = c.args.script.now in
    let old = both c.in_ok-shared.passes.even c.in_ok-shared.passes.odd in
    let new = both c.in_ok-passes.passes.even c.in_ok-passes.passes.odd in
    let told = c.in_ok-passes.told in
    let even = merged_entries c.in_ok-passes.passes.even in
    let odd = merged_entries c.in_ok-passes.passes.odd in
    let ran : HaveRun seed old script new told =
    subst (λ sections. HaveRun seed old sections new told) c.as_slice-sections.ensures c.in_ok-passes.ensures in
    let first = c.in_ok-shared.ensures.first.even_first in
    let in_order = c.in_ok-put_in_order.ensures in
    let evens = c.put_in_order.new.told.even in
    let odds = c.put_in_order.new.told.odd in
    subst (λ notes. IsLinkedLogOfCalls g.M.Machine.lawful g.N.Machine.lawful seed script c.put_in_order.new.told.even.items c.put_in_order.new.told.odd.items notes.items) (sym c.put_in_order.ensures.notes)
    (tells_linked g.M.Machine.lawful g.N.Machine.lawful seed script old new told even odd ran first c.end.ensures.callers c.end-2.ensures.callers
    c.put_in_order.new.told.even.items c.put_in_order.new.told.odd.items
    (in_order.even (logged_history even)
    (told_even g.M.Machine.lawful g.N.Machine.lawful seed script old new told even odd ran first c.end.ensures.callers c.end-2.ensures.callers))
    (in_order.odd (logged_history odd)
    (told_odd g.M.Machine.lawful g.N.Machine.lawful seed script old new told even odd ran first c.end.ensures.callers c.end-2.ensures.callers))
    (let few : length evens.items < 2 ^ 64 = let long = evens.ok.0 in let held = evens.ok.1 in let small = evens.small in omega (arith, long, held, small) in few)
    (let few : length odds.items < 2 ^ 64 = let long = odds.ok.0 in let held = odds.ok.1 in let small = odds.small in omega (arith, long, held, small) in few)
    (in_range-merged (calls_of new.even) ran.even_ranged) (in_range-merged (calls_of new.odd) ran.odd_ranged)
    c.end.ensures.lawful c.end-2.ensures.lawful)
