-- What the pass with all numbers knows when the table is closed: the turn is free, and its entries are the whole history.
use Rattle.std.proofs.Common.{◌≡◌, ◌≢◌, ℕ, ◌<◌, ◌≤◌, false, List, [], ◌++◌, sym, ap, ◌∙◌, subst, ⊎_elim}
use Rattle.std.proofs.Common.{Option, Some, true≢false, arith}
use Rattle.std.specs.Prelude.{unwrap_or}
use Rattle.std.proofs.lemmas.Bool.{cases_eq, cases_lt}
use mathlib.Core.Option.{some}
use mathlib.Core.Option as maybe
use lib.ListN.{get_elem?}
use Rattle.atomic_table.specs.Table.{Final, Seen}
use Rattle.call_history.specs.Prefix.{IsPrefix}
use Rattle.call_history.specs.Entries.{History, by, entries_by}
use Rattle.turn_lock.specs.declared.view.View.{View}
use Rattle.turn_lock.specs.Standing.{Standing, standing}
use Rattle.turn_lock.specs.Turns.{TurnState, TurnInvariant}
use Rattle.turn_lock.specs.Views.{Owns, Knows}
use Rattle.turn_lock.proofs.Shares.{by_not_own, by_past}
use Rattle.turn_lock.proofs.Views.{at_same}

pub Some-injective : {A : Type 0} (a b : A) → Some a ≡ Some b → a ≡ b
Some-injective a b e = ap (λ o. unwrap_or o a) e

module _ {V C R : Type 0} (reaches : History C R → V → Type 0) (numbers allowance : ℕ) where
  abbrev Rule : TurnState V C R → Type 0
  Rule = TurnInvariant reaches numbers allowance

  -- the history that reaches the value at home
  pub record Left (id : ℕ) (v : View C R) (slots : List (Option (Standing V C R))) : Type 0 where
    pub history : History C R
    pub value : V
    pub home : get_elem? slots 0 ≡ some (Some (standing value history))
    pub entries : (caller : ℕ) → by caller (v.past ++ v.mine) ≡ entries_by caller history
    pub begins : IsPrefix v.seen history

  pub closes : (id : ℕ) (v : View C R) (words : List ℕ) (slots : List (Option (Standing V C R))) → v.who ≡ 0
      → v.high ≡ numbers → v.who < v.high → v.turn ≡ false
      → by v.who v.mine ≡ v.mine → ((caller : ℕ) → ¬ Owns v caller → by caller v.past ≡ [])
      → Final (Seen Rule id v) words slots → Left id v slots
  closes id v words slots from to wide idle own no_past final =
      record {
        history = k.history;
        value = (k.free free).0;
        home = at_home;
        entries = all;
        begins = f.begins;
      }
    where
      s : TurnState V C R
      s = final.0

      k : Rule s
      k = final.1.0

      at : get_elem? s.views id ≡ some v
      at = final.1.1

      f : Knows numbers k.history k.turn k.holder id v
      f = k.each id v at

      free : k.turn ≡ 0
      free = ⊎_elim (λ (z : k.turn ≡ 0). z) (λ nz. absurd (nobody nz)) (cases_eq k.turn 0)
        where
          nobody : k.turn ≢ 0 → ⊥
          nobody nz =
              let t = k.taken nz in
              let g = k.each k.holder t.0 t.1 in
              let some_number = (g.holds_turn t.2).3 in
              let below = g.below in
              ⊎_elim
              (λ (e : k.holder ≡ id). true≢false (sym t.2
              ∙ (ap (λ (u : View C R). u.turn) (at_same s.views id t.0 v
              (subst (λ i. get_elem? s.views i ≡ some t.0) e t.1) at) ∙ idle)))
              (λ other. k.apart k.holder id t.0 v t.1 at other t.0.who (omega arith, some_number)
              (omega arith, omega arith))
              (cases_eq k.holder id)

      at_home : get_elem? slots 0 ≡ some (Some (standing (k.free free).0 k.history))
      at_home =
          final.4 0 (Some (standing (k.free free).0 k.history))
          (ap (λ (hs : List (maybe.Option (Option (Standing V C R)))). get_elem? hs 0) (k.free free).1)

      all : (caller : ℕ) → by caller (v.past ++ v.mine) ≡ entries_by caller k.history
      all caller = ⊎_elim
          (λ (l : caller < numbers). f.own caller (omega arith, omega arith))
          (λ (h : numbers ≤ caller).
          let none : by caller v.mine ≡ [] = by_not_own caller v.who v.mine own (λ e. absurd (omega arith)) in
          by_past caller v.past v.mine none ∙ (no_past caller (λ ours. let l = ours.1 in omega arith)
          ∙ sym (k.callers caller h)))
          (cases_lt caller numbers)
