use Rattle.std.proofs.Common.{subst}
use Rattle.next_calls.specs.EntriesSoFar.{GoesOn}
use Rattle.next_calls.proofs.caller.Caller.go_on.Goals as goal

pub returns-clause-awaits : goal.returns-clause-awaits
returns-clause-awaits g c =
    λ placed so. subst (λ waits. GoesOn waits c.args.seed.now c.step.new.self placed) c.if-not-branch.false
    (c.in_ok-step.ensures.goes_on placed (c.commands.invariant.is_after placed so))
