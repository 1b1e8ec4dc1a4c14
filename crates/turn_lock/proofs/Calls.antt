-- The three steps of a call on the table keep the rule: the turn is taken, the entry is counted, the turn is freed.
use Rattle.std.proofs.Common.{◌≡◌, ◌≢◌, ℕ, ◌+◌, ◌%◌, ◌^◌, ◌<◌, true, false, eqb, List, [], ◌∷◌, ◌++◌, length}
use Rattle.std.proofs.Common.{set, get_or, sym, refl, ap, ◌∙◌, subst, ⊎_elim, Option, Some, true≢false}
use Rattle.std.proofs.Common.{append-nil, append_assoc, length-append, mod-eq_of_lt, arith}
use Rattle.std.proofs.lemmas.Bool.{cases_eq}
use mathlib.Core.Option.{some}
use mathlib.Core.Option as maybe
use lib.ListN.{get_elem?}
use prog.Atomic.{either}
use Rattle.atomic_table.specs.Table.{Act, keeps, takes, gives, homes_after, carried_after, Valid, Allows}
use Rattle.atomic_table.proofs.Lists.{set_again, exchanged}
use Rattle.call_history.specs.declared.entry.Entry.{Entry}
use Rattle.call_history.specs.Prefix.{IsPrefix}
use Rattle.call_history.specs.Entries.{History, PlacedList, by, entries_by}
use Rattle.call_history.proofs.Prefixes.{IsPrefix-refl, IsPrefix-longer}
use Rattle.call_history.proofs.Placing.{by-append, by-cons_own, by-cons_other, entries_by-more_own}
use Rattle.call_history.proofs.Placing.{entries_by-more_other}
use Rattle.turn_lock.specs.declared.view.View.{View}
use Rattle.turn_lock.specs.Standing.{Standing, standing}
use Rattle.turn_lock.specs.Turns.{TurnState, TurnInvariant}
use Rattle.turn_lock.specs.Views.{Owns, Knows, calls_left_of_views}
use Rattle.turn_lock.specs.Steps.{Seated, HasTaken, try_step, counted, counted_view, release_step}
use Rattle.turn_lock.proofs.Views.{at_written, only, each_set, alone, apart_set, left_set}

-- the turn was taken of a seat that knew the same
pub taken_from : {V C R : Type 0} (m n after : Seated V C R) → m ≡ n → HasTaken m after → HasTaken n after
taken_from {V} {C} {R} m n after same taken = subst (λ (z : Seated V C R). HasTaken z after) same taken

module _ {V C R : Type 0} (reaches : History C R → V → Type 0) (numbers allowance : ℕ) where
  abbrev Rule : TurnState V C R → Type 0
  Rule = TurnInvariant reaches numbers allowance

  abbrev table : List ℕ → List (maybe.Option (Option (Standing V C R))) → List (View C R) → TurnState V C R
  table words homes views = record { words = words; homes = homes; views = views }

  -- a step that changes nothing
  pub same : (s : TurnState V C R) (k : Rule s)
      → Rule (table (k.turn ∷ length k.history ∷ []) s.homes s.views)
  same s k =
      record {
        history = k.history;
        turn = k.turn;
        holder = k.holder;
        words = refl;
        free = k.free;
        taken = k.taken;
        each = k.each;
        apart = k.apart;
        callers = k.callers;
        room = k.room;
        small = k.small;
      }

  pub unchanged : (s : TurnState V C R) (k : Rule s) (id : ℕ) (v : View C R) → get_elem? s.views id ≡ some v
      → Rule (table (k.turn ∷ length k.history ∷ []) s.homes (set s.views id v))
  unchanged s k id v at =
      subst (λ (vs : List (View C R)). Rule (table (k.turn ∷ length k.history ∷ []) s.homes vs))
      (sym (set_again s.views id v at)) (same s k)

  -- the same calls are left in all where this seat's stay
  left_same : (vs : List (View C R)) (id : ℕ) (v w : View C R) → get_elem? vs id ≡ some v → w.left ≡ v.left
      → calls_left_of_views (set vs id w) ≡ calls_left_of_views vs
  left_same vs id v w at e = let sums = left_set vs id v w at in omega arith

  -- no other seat has the turn that this one has
  no_other : (s : TurnState V C R) (k : Rule s) (id j : ℕ) (v u : View C R) → get_elem? s.views id ≡ some v
      → v.turn ≡ true → j ≢ id → get_elem? s.views j ≡ some u → u.turn ≡ true → ⊥
  no_other s k id j v u at t other at' t' =
      other (((k.each j u at').holds_turn t').1 ∙ sym ((k.each id v at).holds_turn t).1)

  -- What a step on the turn leaves that makes it n: where it was free, the seat has taken it, and else
  -- nothing but the word has changed
  abbrev Tries : (s : TurnState V C R) (k : Rule s) (id : ℕ) (v : View C R) (n : ℕ) → Type 0
  Tries s k id v n =
      (w : View C R) × (a : Act (Option (Standing V C R))) × Valid s.homes [] a
      × Rule (table (n ∷ length k.history ∷ []) (homes_after s.homes [] a) (set s.views id w))
      × try_step (v, []) k.turn (w, carried_after [] a)

  takes_free : (s : TurnState V C R) (k : Rule s) (id : ℕ) (v : View C R) (n : ℕ) → v.who < v.high
      → get_elem? s.views id ≡ some v → n ≢ 0 → k.turn ≡ 0 → Tries s k id v n
  takes_free s k id v n some_number at some_turn z = (
    w,
    takes 0 (Some held),
    ap (λ (hs : List (maybe.Option (Option (Standing V C R)))). get_elem? hs 0)
        (k.free z).1,
    kept,
    ((λ _. (held, f.begins, refl)), (λ nz. absurd (nz z))),
  )
    where
      w : View C R
      w = record v { turn = true; seen = k.history }

      f : Knows numbers k.history k.turn k.holder id v
      f = k.each id v at

      held : Standing V C R
      held = standing (k.free z).0 k.history

      kept : Rule (table (n ∷ length k.history ∷ []) (homes_after s.homes [] (takes 0 (Some held)))
          (set s.views id w))
      kept = record {
        history = k.history;
        turn = n;
        holder = id;
        words = refl;
        free = λ e. absurd (some_turn e);
        taken = λ _. (w, at_written s.views id v w at, refl);
        each = each_set (Knows numbers k.history n id) s.views id w
            record {
              begins = IsPrefix-refl k.history;
              known_begins = f.known_begins;
              holds_turn = λ _. (some_turn, refl, refl, some_number);
              below = f.below;
              own = f.own;
            }
            (λ j u other at'. let g = k.each j u at' in
            record {
              begins = g.begins;
              known_begins = g.known_begins;
              holds_turn = λ t. absurd ((g.holds_turn t).0 z);
              below = g.below;
              own = g.own;
            });
        apart = apart_set s.views id w k.apart (alone s.views id v k.apart at);
        callers = k.callers;
        room = let sums = left_same s.views id v w at refl in let before = k.room in omega arith;
        small = k.small;
      }

  -- the turn is taken where it is free, and else is as it was
  tries : (slots id : ℕ) (v : View C R) → v.who < v.high
      → Allows Rule slots id (v, []) 0 (λ n. either (eqb n 0) 1 n) (try_step (v, []))
  tries slots id v some_number s k long at small =
      subst (λ (ws : List ℕ). (w : View C R) × (a : Act (Option (Standing V C R))) × Valid s.homes [] a
      × Rule (table (set ws 0 (either (eqb (get_or ws 0 0) 0) 1 (get_or ws 0 0))) (homes_after s.homes [] a)
      (set s.views id w))
      × try_step (v, []) (get_or ws 0 0) (w, carried_after [] a)) (sym k.words)
      (exchanged k.turn 0 1 (Tries s k id v) (takes_free s k id v 1 some_number at (λ e. absurd (omega arith)))
      (λ nz. (v, keeps, tt, unchanged s k id v at, ((λ z. absurd (nz z)), (λ _. refl)))))

  -- a turn that a caller has is marked: others may sleep until it is free
  marked : (s : TurnState V C R) (k : Rule s) (id : ℕ) (v : View C R) (n : ℕ) → n ≢ 0 → k.turn ≢ 0
      → get_elem? s.views id ≡ some v
      → Rule (table (n ∷ length k.history ∷ []) s.homes (set s.views id v))
  marked s k id v n some_turn nz at =
      subst (λ (vs : List (View C R)). Rule (table (n ∷ length k.history ∷ []) s.homes vs))
      (sym (set_again s.views id v at)) record {
        history = k.history;
        turn = n;
        holder = k.holder;
        words = refl;
        free = λ e. absurd (some_turn e);
        taken = λ _. k.taken nz;
        each = λ j u at'. let g = k.each j u at' in record {
          begins = g.begins;
          known_begins = g.known_begins;
          holds_turn = λ t. (some_turn, (g.holds_turn t).1, (g.holds_turn t).2, (g.holds_turn t).3);
          below = g.below;
          own = g.own;
        };
        apart = k.apart;
        callers = k.callers;
        room = k.room;
        small = k.small;
      }

  -- the turn is taken where it is free, and marked else
  marks : (slots id n : ℕ) (v : View C R) → n ≢ 0 → v.who < v.high
      → Allows Rule slots id (v, []) 0 (λ _. n) (try_step (v, []))
  marks slots id n v some_turn some_number s k long at small =
      subst (λ (ws : List ℕ). (w : View C R) × (a : Act (Option (Standing V C R))) × Valid s.homes [] a
      × Rule (table (set ws 0 n) (homes_after s.homes [] a) (set s.views id w))
      × try_step (v, []) (get_or ws 0 0) (w, carried_after [] a)) (sym k.words)
      (⊎_elim (takes_free s k id v n some_number at some_turn)
      (λ nz. (v, keeps, tt, marked s k id v n some_turn nz at, ((λ z. absurd (nz z)), (λ _. refl))))
      (cases_eq k.turn 0))

  -- the entry is counted
  counts : (slots id : ℕ) (v : View C R) (c : List (ℕ × Option (Standing V C R))) (e : Entry C R)
      → v.turn ≡ true → e.who ≡ v.who → 0 < v.left
      → Allows Rule slots id (v, c) 1 (λ n. (n + 1) % 2 ^ 64) (counted (e ∷ []) (v, c))
  counts slots id v c e turn own some_left s k long at small =
      subst (λ (ws : List ℕ). (w : View C R) × (a : Act (Option (Standing V C R))) × Valid s.homes c a
      × Rule (table (set ws 1 ((get_or ws 1 0 + 1) % 2 ^ 64)) (homes_after s.homes c a) (set s.views id w))
      × counted (e ∷ []) (v, c) (get_or ws 1 0) (w, carried_after c a)) (sym k.words) (
        w,
        keeps,
        tt,
        kept,
        (
          sym (ap length seen_all),
          refl,
          mine v.who (omega arith, held.3)
              ∙ ap (λ (h : History C R). entries_by v.who (h ++ e ∷ [])) (sym seen_all),
        ),
      )
    where
      w : View C R
      w = counted_view v (e ∷ [])

      f : Knows numbers k.history k.turn k.holder id v
      f = k.each id v at

      held : (k.turn ≢ 0) × (id ≡ k.holder) × (v.seen ≡ k.history) × (v.who < v.high)
      held = f.holds_turn turn

      seen_all : v.seen ≡ k.history
      seen_all = held.2

      longer : History C R
      longer = k.history ++ e ∷ []

      one_more : length longer ≡ length k.history + 1
      one_more = length-append k.history (e ∷ [])

      left_less : calls_left_of_views (set s.views id w) + 1 ≡ calls_left_of_views s.views
      left_less = let sums = left_set s.views id v w at in omega arith

      -- the caller's own entries after the count, and all others'
      mine : (caller : ℕ) → Owns v caller → by caller (v.past ++ w.mine) ≡ entries_by caller longer
      mine caller owned =
          let x : ℕ × Entry C R = (length v.seen, e) in
          let parts : by caller (v.past ++ w.mine) ≡ entries_by caller k.history ++ by caller (x ∷ [])
          = ap (by caller) (sym (append_assoc v.past v.mine (x ∷ [])))
          ∙ (by-append caller (v.past ++ v.mine) (x ∷ [])
          ∙ ap (λ (l : PlacedList C R). l ++ by caller (x ∷ [])) (f.own caller owned)) in
          ⊎_elim
          (λ (is : e.who ≡ caller). parts ∙ (ap (λ (l : PlacedList C R). entries_by caller k.history ++ l)
          (by-cons_own caller x [] is)
          ∙ (ap (λ (n : ℕ). entries_by caller k.history ++ (n, e) ∷ []) (ap length seen_all)
          ∙ sym (entries_by-more_own caller k.history e is))))
          (λ other. parts ∙ (ap (λ (l : PlacedList C R). entries_by caller k.history ++ l)
          (by-cons_other caller x [] other)
          ∙ (append-nil (entries_by caller k.history)
          ∙ sym (entries_by-more_other caller k.history e other))))
          (cases_eq e.who caller)

      theirs : (caller : ℕ) → caller ≢ e.who → entries_by caller k.history ≡ entries_by caller longer
      theirs caller other = sym (entries_by-more_other caller k.history e (λ is. other (sym is)))

      not_mine : (j : ℕ) (u : View C R) → j ≢ id → get_elem? s.views j ≡ some u → (caller : ℕ) → Owns u caller
          → caller ≢ e.who
      not_mine j u other at' caller owns as_e =
          k.apart j id u v at' at other caller owns
          (let is = as_e ∙ own in let low = held.3 in (omega arith, omega arith))

      kept : Rule (table (k.turn ∷ (length k.history + 1) % 2 ^ 64 ∷ []) s.homes (set s.views id w))
      kept = record {
        history = longer;
        turn = k.turn;
        holder = k.holder;
        words =
            let room = k.room in let most = k.small in
            ap (λ n. k.turn ∷ n ∷ []) (mod-eq_of_lt (omega arith) ∙ sym one_more);
        free = λ z. absurd (held.0 z);
        taken =
            λ _. (
              w,
              subst (λ h. get_elem? (set s.views id w) h ≡ some w) held.1
                  (at_written s.views id v w at),
              turn,
            );
        each = each_set (Knows numbers longer k.turn k.holder) s.views id w
            record {
              begins =
                  subst (λ (h : History C R). IsPrefix (h ++ e ∷ []) longer) (sym seen_all)
                  (IsPrefix-refl longer);
              known_begins = IsPrefix-longer v.told k.history (e ∷ []) f.known_begins;
              holds_turn = λ _. (held.0, held.1, ap (λ (h : History C R). h ++ e ∷ []) seen_all, held.3);
              below = f.below;
              own = mine;
            }
            (λ j u other at'. let g = k.each j u at' in record {
              begins = IsPrefix-longer u.seen k.history (e ∷ []) g.begins;
              known_begins = IsPrefix-longer u.told k.history (e ∷ []) g.known_begins;
              holds_turn = λ t. absurd (no_other s k id j v u at turn other at' t);
              below = g.below;
              own = λ caller owns. g.own caller owns ∙ theirs caller (not_mine j u other at' caller owns);
            });
        apart = apart_set s.views id w k.apart (alone s.views id v k.apart at);
        callers =
            λ caller high. sym (theirs caller (λ as_e. let is = as_e ∙ own in let low = held.3 in
            let below = f.below in absurd (omega arith))) ∙ k.callers caller high;
        room = let before = k.room in let fewer = left_less in let more = one_more in omega arith;
        small = k.small;
      }

  -- the value goes home, and the turn is free
  releases : (id : ℕ) (v : View C R) (value : V) → v.turn ≡ true → reaches v.seen value
      → Allows Rule 1 id (v, (0, Some (standing value v.seen)) ∷ []) 0 (λ _. 0)
      (release_step (v, (0, Some (standing value v.seen)) ∷ []))
  releases id v value turn reached_by s k long at small =
      subst (λ (ws : List ℕ). (w : View C R) × (a : Act (Option (Standing V C R)))
      × Valid s.homes ((0, Some (standing value v.seen)) ∷ []) a
      × Rule (table (set ws 0 0) (homes_after s.homes ((0, Some (standing value v.seen)) ∷ []) a)
      (set s.views id w))
      × release_step (v, (0, Some (standing value v.seen)) ∷ []) (get_or ws 0 0)
      (w, carried_after ((0, Some (standing value v.seen)) ∷ []) a)) (sym k.words)
      (w, gives, tt, kept, refl)
    where
      w : View C R
      w = record v { turn = false }

      f : Knows numbers k.history k.turn k.holder id v
      f = k.each id v at

      kept : Rule (table (0 ∷ length k.history ∷ []) (set s.homes 0 (some (Some (standing value v.seen))))
          (set s.views id w))
      kept = record {
        history = k.history;
        turn = 0;
        holder = 0;
        words = refl;
        free = λ _. (
          value,
          only s.homes (some (Some (standing value v.seen))) long
              ∙ ap (λ (h : History C R). some (Some (standing value h)) ∷ []) (f.holds_turn turn).2,
          subst (λ (h : History C R). reaches h value) (f.holds_turn turn).2 reached_by,
        );
        taken = λ nz. absurd (nz refl);
        each = each_set (Knows numbers k.history 0 0) s.views id w
            record {
              begins = f.begins;
              known_begins = f.known_begins;
              holds_turn = λ t. absurd (true≢false (sym t));
              below = f.below;
              own = f.own;
            }
            (λ j u other at'. let g = k.each j u at' in
            record {
              begins = g.begins;
              known_begins = g.known_begins;
              holds_turn = λ t. absurd (no_other s k id j v u at turn other at' t);
              below = g.below;
              own = g.own;
            });
        apart = apart_set s.views id w k.apart (alone s.views id v k.apart at);
        callers = k.callers;
        room = let sums = left_same s.views id v w at refl in let before = k.room in omega arith;
        small = k.small;
      }

  -- the same at a seat that is known by equations
  pub tries_at : (slots id : ℕ) (m : Seated V C R) → m.1 ≡ [] → m.0.who < m.0.high
      → Allows Rule slots id m 0 (λ n. either (eqb n 0) 1 n) (try_step m)
  tries_at slots id m bare wide =
      subst (λ (z : Seated V C R). Allows Rule slots id z 0 (λ n. either (eqb n 0) 1 n) (try_step z))
      (λ i. (m.0, sym bare i)) (tries slots id m.0 wide)

  pub marks_at : (slots id n : ℕ) (m : Seated V C R) → m.1 ≡ [] → m.0.who < m.0.high → n ≢ 0
      → Allows Rule slots id m 0 (λ _. n) (try_step m)
  marks_at slots id n m bare wide some_turn =
      subst (λ (z : Seated V C R). Allows Rule slots id z 0 (λ _. n) (try_step z))
      (λ i. (m.0, sym bare i)) (marks slots id n m.0 some_turn wide)

  pub counts_at : (slots id : ℕ) (m : Seated V C R) (said : History C R) (e : Entry C R) → said ≡ e ∷ []
      → m.0.turn ≡ true → e.who ≡ m.0.who → 0 < m.0.left
      → Allows Rule slots id m 1 (λ n. (n + 1) % 2 ^ 64) (counted said m)
  counts_at slots id m said e is turn own some_left =
      subst (λ (h : History C R). Allows Rule slots id m 1 (λ n. (n + 1) % 2 ^ 64) (counted h m)) (sym is)
      (counts slots id m.0 m.1 e turn own some_left)

  pub releases_at : (slots id : ℕ) (m : Seated V C R) (value : V) → slots ≡ 1 → m.0.turn ≡ true
      → reaches m.0.seen value
      → m.1 ≡ (0, Some (standing value m.0.seen)) ∷ [] → Allows Rule slots id m 0 (λ _. 0) (release_step m)
  releases_at slots id m value one turn reached_by carried =
      subst (λ (n : ℕ). Allows Rule n id m 0 (λ _. 0) (release_step m)) (sym one)
      (subst (λ (z : Seated V C R). Allows Rule 1 id z 0 (λ _. 0) (release_step z))
      (λ i. (m.0, sym carried i)) (releases id m.0 value turn reached_by))
