-- Calls after calls are calls, and none are none: the laws of the port to a mount of one thread.
use Rattle.std.proofs.Common.{◌≡◌, ℕ, ◌+◌, [], ◌++◌, length, refl, sym, ap}
use Rattle.std.proofs.Common.{ap₂, ◌∙◌, subst, arith, append-nil, append_assoc, length-append}
use Rattle.std.proofs.lemmas.List.{map-append, length-map}
use Rattle.call_history.specs.Entries.{entries_with_places, by}
use Rattle.call_history.specs.Placed.{entries_of}
use Rattle.call_history.proofs.Placing.{numbered-append, by-append}
use Rattle.mount_model.specs.History.{History, MountEntry}
use Rattle.mount_model.specs.Port.{PlacedCalls}
use Rattle.mount_shared.specs.SerialCalls.{SerialView, SerialAfterCalls}

module _ {M : Type 0} where
  pub SerialAfterCalls-none : (reaches : History → M → Type 0) (port : SerialView M)
      → SerialAfterCalls reaches port [] port
  SerialAfterCalls-none reaches port = record {
    placed = refl;
    next = omega arith;
    own = refl;
    counted = omega arith;
    same_caller = refl;
    reached_by = λ history so. subst (λ h. reaches h port.machine) (sym (append-nil history)) so;
  }

  pub SerialAfterCalls-on : (reaches : History → M → Type 0) (a b c : SerialView M) (es fs : PlacedCalls)
      → SerialAfterCalls reaches a es b → SerialAfterCalls reaches b fs c
      → SerialAfterCalls reaches a (es ++ fs) c
  SerialAfterCalls-on reaches a b c es fs p q =
      let first = p.next in
      let second = q.next in
      let left = p.counted in
      let left' = q.counted in
      let split : entries_of (es ++ fs) ≡ entries_of es
      ++ entries_of fs = map-append (λ (x : ℕ × MountEntry). x.1) es fs in
      let behind : a.places + length (entries_of es) ≡ b.places =
      ap (λ n. a.places + n) (length-map es (λ (x : ℕ × MountEntry). x.1)) ∙ sym first in
      record {
        placed =
            ap₂ (λ (l r : PlacedCalls). l ++ r) p.placed (q.placed ∙ ap (λ n.
            entries_with_places n (entries_of fs)) (sym behind))
            ∙ sym (numbered-append a.places (entries_of es) (entries_of fs))
            ∙ ap (entries_with_places a.places) (sym split);
        next = omega (arith, first, second, length-append es fs);
        own = by-append a.caller es fs
            ∙ ap₂ (λ (l r : PlacedCalls). l ++ r) p.own (ap (λ n. by n fs) (sym p.same_caller) ∙ q.own);
        counted = omega (arith, left, left', length-append es fs);
        same_caller = q.same_caller ∙ p.same_caller;
        reached_by = λ history so.
            subst (λ h.
            reaches h c.machine) (append_assoc history (entries_of es) (entries_of fs) ∙ ap (λ (h : History).
            history ++ h) (sym split))
            (q.reached_by (history ++ entries_of es) (p.reached_by history so));
      }

  pub SerialAfterCalls-caller : (reaches : History → M → Type 0) (a b : SerialView M) (es : PlacedCalls)
      → SerialAfterCalls reaches a es b → b.caller ≡ a.caller
  SerialAfterCalls-caller reaches a b es p = p.same_caller
