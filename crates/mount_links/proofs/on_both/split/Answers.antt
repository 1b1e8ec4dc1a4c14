use Rattle.std.proofs.Common.{◌++◌, ap, sym, ◌∙◌, append-nil, ◌⊎◌, inl, inr, length, ◌≡◌}
use Rattle.mount_links.proofs.ShownLemmas.{own_parts_end, far_parts_end}
use Rattle.mount_links.proofs.on_both.split.Goals as goal

pub returns-clause-own : goal.returns-clause-own
returns-clause-own c =
    let it = c.calls.step-iterator in
    let ended : (length it.a.rest.items ≡ 0) ⊎ (length it.b.rest.items ≡ 0) =
    elim c.in-None.ensures.steps [ inl w ↦ inl (sym it.a.rest.ok.0 ∙ w.1.0) | inr w ↦ inr (sym it.b.rest.ok.0 ∙ w.1.0) ] in
    sym (append-nil c.calls.both.own)
    ∙ ap (λ l. c.calls.both.own ++ l) (sym (own_parts_end it.a.rest.items it.b.rest.items ended))
    ∙ c.calls.invariant.own

pub returns-clause-far : goal.returns-clause-far
returns-clause-far c =
    let it = c.calls.step-iterator in
    let ended : (length it.a.rest.items ≡ 0) ⊎ (length it.b.rest.items ≡ 0) =
    elim c.in-None.ensures.steps [ inl w ↦ inl (sym it.a.rest.ok.0 ∙ w.1.0) | inr w ↦ inr (sym it.b.rest.ok.0 ∙ w.1.0) ] in
    sym (append-nil c.calls.both.far)
    ∙ ap (λ l. c.calls.both.far ++ l) (sym (far_parts_end it.a.rest.items it.b.rest.items ended))
    ∙ c.calls.invariant.far
