-- Steps of calls after steps of calls, and what they make on both mounts.
use Rattle.std.proofs.Common.{◌≡◌, List, [], ◌∷◌, ◌++◌, refl, ap, sym, ◌∙◌, append_assoc}
use Rattle.mount_model.specs.Port.{PlacedCalls}
use Rattle.mount_links.specs.declared.step.LinkStep.{LinkStep}
use Rattle.mount_links.specs.Linked.{own_part, own_parts, far_part, far_parts}
use Rattle.mount_links.specs.LinkCalls.{AreSteps, load_call}

-- steps of calls after steps of calls
pub AreSteps-append : (s t : List LinkStep) (e f : PlacedCalls)
    → AreSteps s e → AreSteps t f → AreSteps (s ++ t) (e ++ f)
AreSteps-append [] t [] f p q = q
AreSteps-append [] t (x ∷ e) f p q = absurd p
AreSteps-append (a ∷ s) t [] f p q = absurd p
AreSteps-append (a ∷ s) t (x ∷ e) f p q = (p.0, AreSteps-append s t e f p.1 q)

pub own_parts-append : (s t : List LinkStep) (e f : PlacedCalls) → AreSteps s e
    → own_parts load_call (s ++ t) (e ++ f) ≡ own_parts load_call s e ++ own_parts load_call t f
own_parts-append [] t [] f p = refl
own_parts-append [] t (x ∷ e) f p = absurd p
own_parts-append (a ∷ s) t [] f p = absurd p
own_parts-append (a ∷ s) t (x ∷ e) f p =
    ap (λ (l : PlacedCalls). own_part load_call a x ++ l) (own_parts-append s t e f p.1)
    ∙ sym (append_assoc (own_part load_call a x) (own_parts load_call s e) (own_parts load_call t f))

pub far_parts-append : (s t : List LinkStep) (e f : PlacedCalls) → AreSteps s e
    → far_parts (s ++ t) (e ++ f) ≡ far_parts s e ++ far_parts t f
far_parts-append [] t [] f p = refl
far_parts-append [] t (x ∷ e) f p = absurd p
far_parts-append (a ∷ s) t [] f p = absurd p
far_parts-append (a ∷ s) t (x ∷ e) f p =
    ap (λ (l : PlacedCalls). far_part a x ++ l) (far_parts-append s t e f p.1)
    ∙ sym (append_assoc (far_part a x) (far_parts s e) (far_parts t f))
