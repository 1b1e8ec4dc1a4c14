-- A split, a join and the look after it preserve the rule.
use Rattle.std.proofs.Common.{◌≡◌, ◌≢◌, ℕ, ◌+◌, ◌^◌, ◌<◌, ◌≤◌, true, false, List, [], ◌∷◌, ◌++◌, length, set}
use Rattle.std.proofs.Common.{get_or, sym, refl, ap, ◌∙◌, subst, ⊎_elim, Option, true≢false, arith}
use Rattle.std.proofs.lemmas.Bool.{cases_lt}
use mathlib.Core.Option.{some}
use lib.ListN.{get_elem?}
use Rattle.atomic_table.specs.Table.{keeps, Allows, Splits, Joins}
use Rattle.atomic_table.proofs.Lists.{set_else, at_longer}
use Rattle.call_history.specs.Entries.{History, PlacedList, by, entries_by}
use Rattle.call_history.proofs.Prefixes.{IsPrefix-nil, IsPrefix_shorter}
use Rattle.call_history.proofs.Placing.{by-append}
use Rattle.turn_lock.specs.declared.view.View.{View}
use Rattle.turn_lock.specs.PassParts.{under, over}
use Rattle.turn_lock.specs.Standing.{Standing}
use Rattle.turn_lock.specs.Turns.{TurnState, TurnInvariant}
use Rattle.turn_lock.specs.Views.{Owns, Knows, spent_view}
use Rattle.turn_lock.specs.Steps.{Seated, look_step, lower_view, upper_view, joined_view}
use Rattle.turn_lock.proofs.Calls.{unchanged}
use Rattle.turn_lock.proofs.Shares.{by-under, by-over, by_not_own, by_past, by_mine, length-mine}
use Rattle.turn_lock.proofs.Shares.{IsPrefix-longer_both, IsPrefix-shorter_both}
use Rattle.turn_lock.proofs.Views.{at_same, each_set, each_new, alone, Apart, Alone, set_swap, apart_set}
use Rattle.turn_lock.proofs.Views.{apart_new, left_set, left_new, left_at}

module _ {V C R : Type 0} (reaches : History C R → V → Type 0) (numbers allowance : ℕ) where
  abbrev Rule : TurnState V C R → Type 0
  Rule = TurnInvariant reaches numbers allowance

  -- the seat that has the turn is not this one, and still has it if this one's view has changed
  still_taken : (s : TurnState V C R) (k : Rule s) (id : ℕ) (v w : View C R) → get_elem? s.views id ≡ some v
      → v.turn ≡ false → k.turn ≢ 0
      → (u : View C R) × (get_elem? (set s.views id w) k.holder ≡ some u) × (u.turn ≡ true)
  still_taken s k id v w at idle nz = let t = k.taken nz in
      let other : k.holder ≢ id = λ e. true≢false
      (sym t.2 ∙ (ap (λ (u : View C R). u.turn)
      (at_same s.views id t.0 v (subst (λ i. get_elem? s.views i ≡ some t.0) e t.1) at) ∙ idle)) in
      (t.0, set_else s.views id k.holder w other ∙ t.1, t.2)

  pub splits : (id : ℕ) (v : View C R) (at give : ℕ) → v.who < at → at < v.high → give ≤ v.left
      → v.turn ≡ false → by v.who v.mine ≡ v.mine
      → Splits Rule id v (lower_view at give v) (upper_view at give v)
  splits id v at give low high enough idle own s k here = record {
    history = k.history;
    turn = k.turn;
    holder = k.holder;
    words = k.words;
    free = k.free;
    taken =
        λ nz. let t = still_taken s k id v lower here idle nz in
        (t.0, at_longer changed (upper ∷ []) k.holder t.0 t.1, t.2);
    each = each_new (Knows numbers k.history k.turn k.holder) changed upper
        (λ j. record {
          begins = f.begins;
          known_begins = f.known_begins;
          holds_turn = λ t. absurd (true≢false (sym t ∙ idle));
          below = f.below;
          own = upper_own;
        })
        (each_set (Knows numbers k.history k.turn k.holder) s.views id lower
        record {
          begins = f.begins;
          known_begins = f.known_begins;
          holds_turn = λ t. absurd (true≢false (sym t ∙ idle));
          below = let most = f.below in
              omega arith;
          own = lower_own;
        }
        (λ j u other at'. k.each j u at'));
    apart = apart_new changed upper
        (apart_set s.views id lower k.apart (λ j u other at' caller owns theirs.
        alone s.views id v k.apart here j u other at' caller owns
        (theirs.0, let l = theirs.1 in omega arith)))
        (each_set (λ j u. (caller : ℕ) → Owns u caller → Owns upper caller → ⊥) s.views id lower
        (λ caller l u. let a = l.1 in let b = u.0 in absurd (omega arith))
        (λ j u other at' caller owns theirs. alone s.views id v k.apart here j u other at' caller owns
        (let a = theirs.0 in omega arith, theirs.1)));
    callers = k.callers;
    room =
        let sums = left_set s.views id v lower here in let more = left_new changed upper in
        let before = k.room in omega arith;
    small = k.small;
  }
    where
      lower : View C R
      lower = lower_view at give v

      upper : View C R
      upper = upper_view at give v

      changed : List (View C R)
      changed = set s.views id lower

      f : Knows numbers k.history k.turn k.holder id v
      f = k.each id v here

      lower_own : (caller : ℕ) → Owns lower caller
          → by caller (under at v.past ++ v.mine) ≡ entries_by caller k.history
      lower_own caller owns =
          by-append caller (under at v.past) v.mine
          ∙ (ap (λ (l : PlacedList C R). l ++ by caller v.mine) (by-under caller at v.past owns.1)
          ∙ (sym (by-append caller v.past v.mine) ∙ f.own caller (owns.0, let l = owns.1 in omega arith)))

      upper_own : (caller : ℕ) → Owns upper caller
          → by caller (over at v.past ++ []) ≡ entries_by caller k.history
      upper_own caller owns =
          let a = owns.0 in
          let none : by caller v.mine ≡ [] = by_not_own caller v.who v.mine own (λ e. absurd (omega arith)) in
          by_past caller (over at v.past) [] refl ∙
          (by-over caller at v.past owns.0 ∙ (sym (by_past caller v.past v.mine none)
          ∙ f.own caller (omega arith, owns.1)))

  pub joins : (id : ℕ) (v : View C R) (other : ℕ) (w : View C R) → v.who < v.high → w.who ≡ v.high
      → w.who < w.high → v.turn ≡ false → w.turn ≡ false
      → by v.who v.mine ≡ v.mine → ((caller : ℕ) → ¬ Owns v caller → by caller v.past ≡ [])
      → ((caller : ℕ) → ¬ Owns w caller → by caller (w.past ++ w.mine) ≡ [])
      → Joins Rule id v other w (joined_view v w) spent_view
  joins id v other w wide next wide' idle idle' own no_past no_entries s k here two there' = record {
    history = k.history;
    turn = k.turn;
    holder = k.holder;
    words = k.words;
    free = k.free;
    taken = λ nz. let t = still_taken s k id v both here idle nz in
        let elsewhere : k.holder ≢ other = λ e. true≢false
        (sym t.2 ∙ (ap (λ (u : View C R). u.turn)
        (at_same changed other t.0 w (subst (λ i. get_elem? changed i ≡ some t.0) e t.1) there')
        ∙ idle')) in
        (t.0, set_else changed other k.holder spent_view elsewhere ∙ t.1, t.2);
    each = each_set fits changed other spent_view
        record {
          begins = IsPrefix-nil k.history;
          known_begins = IsPrefix-nil k.history;
          holds_turn = λ t. absurd (true≢false (sym t));
          below = omega arith;
          own = λ caller owns.
              let l = owns.1 in absurd (omega arith);
        }
        (λ j u _ at. each_set fits s.views id both
        record {
          begins = IsPrefix-longer_both v.seen w.seen k.history f.begins g.begins;
          known_begins = IsPrefix-shorter_both v.seen w.seen k.history f.begins g.begins;
          holds_turn = λ t. absurd (true≢false (sym t ∙ idle));
          below = g.below;
          own = both_own;
        }
        (λ j u _ at'. k.each j u at') j u at);
    apart = subst Apart (set_swap s.views other id spent_view both two)
        (apart_set less id both (apart_set s.views other spent_view k.apart
        (λ j u _ at caller owns none. let l = none.1 in absurd (omega arith))) both_alone);
    callers = k.callers;
    room =
        let sums = left_set s.views id v both here in let more = left_set changed other w spent_view there' in
        let before = k.room in omega arith;
    small = k.small;
  }
    where
      both : View C R
      both = joined_view v w

      changed : List (View C R)
      changed = set s.views id both

      less : List (View C R)
      less = set s.views other spent_view

      fits : ℕ → View C R → Type 0
      fits = Knows numbers k.history k.turn k.holder

      there : get_elem? s.views other ≡ some w
      there = sym (set_else s.views id other both two) ∙ there'

      f : fits id v
      f = k.each id v here

      g : fits other w
      g = k.each other w there

      both_own : (caller : ℕ) → Owns both caller
          → by caller ((v.past ++ (w.past ++ w.mine)) ++ v.mine) ≡ entries_by caller k.history
      both_own caller owns = ⊎_elim
          (λ (l : caller < v.high).
          let none : by caller (w.past ++ w.mine) ≡ [] =
          no_entries caller (λ theirs. let a = theirs.0 in omega arith) in
          by-append caller (v.past ++ (w.past ++ w.mine)) v.mine
          ∙ (ap (λ (l : PlacedList C R). l ++ by caller v.mine)
          (by_past caller v.past (w.past ++ w.mine) none)
          ∙ (sym (by-append caller v.past v.mine) ∙ f.own caller (owns.0, l))))
          (λ (h : v.high ≤ caller).
          let none : by caller v.mine ≡ [] = by_not_own caller v.who v.mine own (λ e. absurd (omega arith)) in
          by_past caller (v.past ++ (w.past ++ w.mine)) v.mine none
          ∙ (by_mine caller v.past (w.past ++ w.mine)
          (no_past caller (λ ours. let a = ours.1 in omega arith))
          ∙ g.own caller (omega arith, owns.1)))
          (cases_lt caller v.high)

      both_alone : Alone less id both
      both_alone j u ne at =
          each_set (λ j u. j ≢ id → (caller : ℕ) → Owns u caller → Owns both caller
          → ⊥) s.views other spent_view
          (λ _ caller none. let l = none.1 in absurd (omega arith))
          (λ j u elsewhere at' ne caller owns ours. ⊎_elim
          (λ (l : caller < v.high). k.apart j id u v at' here ne caller owns (ours.0, l))
          (λ (h : v.high ≤ caller). k.apart j other u w at' there elsewhere caller owns (omega arith, ours.1))
          (cases_lt caller v.high))
          j u at ne

  looks : (slots id : ℕ) (v : View C R) → v.who < v.high → by v.who v.mine ≡ v.mine
      → length v.told ≤ length v.seen
      → Allows Rule slots id (v, []) 0 (λ n. n) (look_step (v, []))
  looks slots id v wide own short s k long at small =
      subst (λ (ws : List ℕ). (x : View C R) × (a : Rattle.atomic_table.specs.Table.Act
      (Option (Standing V C R))) × Rattle.atomic_table.specs.Table.Valid s.homes [] a
      × Rule record {
        words = set ws 0 (get_or ws 0 0);
        homes = Rattle.atomic_table.specs.Table.homes_after s.homes [] a;
        views = set s.views id x;
      }
      × look_step (v, []) (get_or ws 0 0) (x, Rattle.atomic_table.specs.Table.carried_after [] a)) (sym k.words) (
        v,
        keeps,
        tt,
        unchanged reaches numbers allowance s k id v at,
        (refl, IsPrefix_shorter v.told v.seen k.history f.known_begins f.begins short, fewer),
      )
    where
      f : Knows numbers k.history k.turn k.holder id v
      f = k.each id v at

      fewer : v.left + length v.mine ≤ 2 ^ 40
      fewer = let mine = length-mine v.who v.past v.mine k.history own (f.own v.who (omega arith, wide)) in
          let room = k.room in let most = k.small in let left = left_at s.views id v at in omega arith

  pub looks_at : (slots id : ℕ) (m : Seated V C R) → m.1 ≡ [] → m.0.who < m.0.high
      → by m.0.who m.0.mine ≡ m.0.mine → length m.0.told ≤ length m.0.seen
      → Allows Rule slots id m 0 (λ n. n) (look_step m)
  looks_at slots id m bare wide own short =
      subst (λ (z : Seated V C R). Allows Rule slots id z 0 (λ n. n) (look_step z)) (λ i. (m.0, sym bare i))
      (looks slots id m.0 wide own short)
