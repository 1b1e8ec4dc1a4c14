-- A value that is reached after no call meets the rule, with one seat that has all numbers and calls.
use Rattle.std.proofs.Common.{◌≡◌, ◌≢◌, ℕ, zero, suc, ◌≤◌, [], ◌∷◌, sym, refl, subst, Some, true≢false, le_refl, arith}
use mathlib.Core.Option.{some, some-injective, some-ne-none}
use lib.ListN.{get_elem?}
use Rattle.atomic_table.specs.Table.{opening}
use Rattle.call_history.specs.declared.TheConstants.{MAX_PLACES}
use Rattle.call_history.specs.Entries.{History}
use Rattle.call_history.proofs.Prefixes.{IsPrefix-refl}
use Rattle.turn_lock.specs.declared.view.View.{View}
use Rattle.turn_lock.specs.Standing.{standing}
use Rattle.turn_lock.specs.Turns.{TurnInvariant}
use Rattle.turn_lock.specs.Views.{Knows, AreApart, first_view}

module _ {V C R : Type 0} (reaches : History C R → V → Type 0) (numbers allowance : ℕ) where
  knows : Knows numbers [] 0 0 0 (first_view {C = C} {R = R} numbers allowance)
  knows = record {
    begins = IsPrefix-refl [];
    known_begins = IsPrefix-refl [];
    holds_turn = λ e. absurd (true≢false (sym e));
    below = le_refl numbers;
    own = λ _ _. refl;
  }

  each : (j : ℕ) (v : View C R) → get_elem? (first_view numbers allowance ∷ []) j ≡ some v
      → Knows numbers [] 0 0 j v
  each zero v e = subst (λ w. Knows numbers [] 0 0 0 w) (some-injective _ v e) knows
  each (suc j) v e = absurd (some-ne-none v (sym e))

  pub starts_kept : (value : V) → reaches [] value → allowance ≤ MAX_PLACES
      → TurnInvariant reaches numbers allowance
      (opening (0 ∷ 0 ∷ []) (Some (standing value []) ∷ []) (first_view numbers allowance))
  starts_kept value reached_by small = record {
    history = [];
    turn = 0;
    holder = 0;
    words = refl;
    free = λ _. (value, refl, reached_by);
    taken = λ other. absurd (other refl);
    each = each;
    apart = apart;
    callers = λ _ _. refl;
    room = omega arith;
    small = small;
  }
    where
      apart : (i j : ℕ) (v w : View C R) → get_elem? (first_view numbers allowance ∷ []) i ≡ some v
          → get_elem? (first_view numbers allowance ∷ []) j ≡ some w → i ≢ j → AreApart v w
      apart zero zero v w at at' other = absurd (other refl)
      apart zero (suc j) v w at at' other = absurd (some-ne-none w (sym at'))
      apart (suc i) j v w at at' other = absurd (some-ne-none v (sym at))
