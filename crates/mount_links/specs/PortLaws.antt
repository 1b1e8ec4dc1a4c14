-- Calls after calls are calls, and none are none.
use Rattle.std.proofs.Common.{◌≡◌, ℕ, List, [], ◌++◌, ap, sym, subst, ◌∙◌, append-nil, append_assoc}
use Rattle.mount_model.specs.Port.{PlacedCalls}
use Rattle.mount_links.specs.declared.step.LinkStep.{LinkStep}
use Rattle.mount_links.specs.LinkCalls.{LinkView, LinkAfterCalls}
use Rattle.mount_links.specs.StepLaws.{AreSteps-append, own_parts-append, far_parts-append}

module _ {P Q : Type 0} (own_after_calls : P → PlacedCalls → P → Type 0)
    (far_after_calls : Q → PlacedCalls → Q → Type 0) where
  pub LinkAfterCalls-none : ((port : P) → own_after_calls port [] port)
      → ((port : Q) → far_after_calls port [] port)
      → (port : LinkView P Q) → LinkAfterCalls own_after_calls far_after_calls port [] port
  LinkAfterCalls-none none_own none_far port = record {
    steps = [];
    are_steps = tt;
    kept = sym (append-nil port.steps);
    on_own = none_own port.own;
    on_far = none_far port.far;
  }

  pub LinkAfterCalls-on : ((first second third : P) (e f : PlacedCalls) → own_after_calls first e second
      → own_after_calls second f third
      → own_after_calls first (e ++ f) third)
      → ((first second third : Q) (e f : PlacedCalls) → far_after_calls first e second
      → far_after_calls second f third
      → far_after_calls first (e ++ f) third)
      → (first second third : LinkView P Q) (e f : PlacedCalls)
      → LinkAfterCalls own_after_calls far_after_calls first e second
      → LinkAfterCalls own_after_calls far_after_calls second f third
      → LinkAfterCalls own_after_calls far_after_calls first (e ++ f) third
  LinkAfterCalls-on more_own more_far first second third e f p q = record {
    steps = p.steps ++ q.steps;
    are_steps = AreSteps-append p.steps q.steps e f p.are_steps q.are_steps;
    kept =
        q.kept ∙ ap (λ (l : List LinkStep). l ++ q.steps) p.kept ∙ append_assoc first.steps p.steps q.steps;
    on_own = subst (λ (l : PlacedCalls). own_after_calls first.own l third.own)
        (sym (own_parts-append p.steps q.steps e f p.are_steps))
        (more_own first.own second.own third.own _ _ p.on_own q.on_own);
    on_far = subst (λ (l : PlacedCalls). far_after_calls first.far l third.far)
        (sym (far_parts-append p.steps q.steps e f p.are_steps))
        (more_far first.far second.far third.far _ _ p.on_far q.on_far);
  }

  pub LinkAfterCalls-caller : (who : P → ℕ)
      → ((first second : P) (e : PlacedCalls) → own_after_calls first e second → who second ≡ who first)
      → (first second : LinkView P Q) (e : PlacedCalls)
      → LinkAfterCalls own_after_calls far_after_calls first e second
      → who second.own ≡ who first.own
  LinkAfterCalls-caller who one first second e p = one first.own second.own _ p.on_own
