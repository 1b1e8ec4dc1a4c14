-- The laws of a port: calls after calls are its calls, and no calls leave it as it is.
use Rattle.std.proofs.Common.{◌≡◌, [], ◌∷◌, ◌++◌, refl, ap, subst}
use Rattle.mount_model.specs.Port.{PlacedCalls}
use Rattle.scripted_port.specs.Scripted.{ScriptedView, ScriptedAfterCalls, after_call}

pub ScriptedAfterCalls-none : (port : ScriptedView) → ScriptedAfterCalls port [] port
ScriptedAfterCalls-none port = refl

pub ScriptedAfterCalls-on : (first second third : ScriptedView) (e f : PlacedCalls)
    → ScriptedAfterCalls first e second → ScriptedAfterCalls second f third
    → ScriptedAfterCalls first (e ++ f) third
ScriptedAfterCalls-on first second third [] f p q = subst (λ port. ScriptedAfterCalls port f third) p q
ScriptedAfterCalls-on first second third (x ∷ e) f p q =
    (p.0, p.1, ScriptedAfterCalls-on (after_call first x.1.call p.0) second third e f p.2 q)

pub ScriptedAfterCalls-caller : (first second : ScriptedView) (e : PlacedCalls)
    → ScriptedAfterCalls first e second → second.caller ≡ first.caller
ScriptedAfterCalls-caller first second [] p = ap (λ (port : ScriptedView). port.caller) p
ScriptedAfterCalls-caller first second (x ∷ e) p =
    ScriptedAfterCalls-caller (after_call first x.1.call p.0) second e p.2
