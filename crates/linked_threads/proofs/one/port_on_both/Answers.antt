use Rattle.std.proofs.Common.{◌≡◌, ◌≤◌, ◌*◌, ◌∙◌, ap, arith}
use Rattle.mount_shared.specs.SharedCalls.{MountPass}
use Rattle.fsc_commands.specs.declared.TheConstants.{MAX_CALLS}
use Rattle.script_runs.specs.Passes.{max_calls_of_sections}
use Rattle.linked_threads.proofs.OneLemmas.{twice_needed}
use Rattle.linked_threads.proofs.one.port_on_both.Goals as goal

pub new-requires-clause-own_left : goal.new-requires-clause-own_left
new-requires-clause-own_left g c =
    let given : c.in-Some.calls ≡ max_calls_of_sections MAX_CALLS c.args.sections.now = c.in-Some.ensures.some.0 in
    let enough : max_calls_of_sections (2 * MAX_CALLS) c.args.sections.now ≤ c.args.passes.odd.left = c.requires.on_odd.calls in
    let same = ap (λ (pass : MountPass). pass.left) (c.over.ensures ∙ c.new-own.ensures) in
    let double = twice_needed MAX_CALLS c.args.sections.now in
    omega (arith, given, enough, same, double)
