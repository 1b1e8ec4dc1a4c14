use Rattle.std.proofs.Common.{◌+◌, List, arith, sym, subst}
use Rattle.next_calls.specs.Callers.{CallerView}
use Rattle.log_check.proofs.StartLemmas.{AreFirst, first_more, section_there}
use Rattle.log_check.proofs.start.begin_callers.Goals as goal

pub callers-preserved : goal.callers-preserved
callers-preserved g c =
    subst (λ (l : List CallerView). AreFirst c.args.seed.now c.args.script.now (c.callers.number + 1) l) (sym c.in_ok-push.ensures.items)
    (first_more c.args.seed.now c.args.script.now c.callers.number c.callers.callers.items c.in_ok-caller.caller c.index-as_slice-number.result c.callers.invariant
    (section_there c.args.script.now c.as_slice.result.now c.callers.number c.index-as_slice-number.result c.as_slice.ensures (omega arith) c.index-as_slice-number.is)
    c.in_ok-caller.ensures.caller c.in_ok-caller.ensures.section c.in_ok-caller.ensures.awaits)
