use Rattle.std.proofs.Common.{◌≤◌, ◌*◌, length, sym, ap, ◌∙◌, subst, arith}
use Rattle.fsc_commands.specs.declared.TheConstants.{MAX_CALLS}
use Rattle.fsc_session.proofs.Asked.{spelled-few, spelled-asked}
use Rattle.mount_shared.specs.SharedCalls.{MountPass}
use Rattle.script_runs.specs.Passes.{max_calls_of_sections}
use Rattle.script_runs.proofs.PassLemmas.{first_runs}
use Rattle.linked_threads.proofs.mounts.share.Goals as goal

pub overflow_cast-numbers : goal.overflow_cast-numbers
overflow_cast-numbers g c =
    let few = subst (λ sections. length sections ≤ 8) (sym c.as_slice-sections.ensures) (spelled-few c.args.script.now c.requires.spelled) in
    omega (arith, few)

pub returns-clause-can_run : goal.returns-clause-can_run
returns-clause-can_run g c =
    let script = c.args.script.now in
    let asked = spelled-asked script c.requires.spelled in
    record {
      on_even = first_runs MAX_CALLS c.in_ok-even.even script c.in_ok-even.even_pass _ c.in-Some.calls c.in_ok-even.ensures.pass (ap length c.as_slice-sections.ensures)
          (c.in-Some.ensures.some.0 ∙ ap (max_calls_of_sections MAX_CALLS) c.as_slice-sections.ensures) c.requires.some asked;
      on_odd = first_runs (2 * MAX_CALLS) c.in_ok-odd.odd script c.in_ok-odd.odd_pass _ c.in-Some-max_calls_of_sections.odd_calls c.in_ok-odd.ensures.pass (ap length c.as_slice-sections.ensures)
          (c.in-Some-max_calls_of_sections.ensures.some.0 ∙ ap (max_calls_of_sections (2 * MAX_CALLS)) c.as_slice-sections.ensures) c.requires.some asked;
      same_caller = ap (λ (pass : MountPass). pass.who) c.in_ok-odd.ensures.pass ∙ sym (ap (λ (pass : MountPass). pass.who) c.in_ok-even.ensures.pass);
    }
