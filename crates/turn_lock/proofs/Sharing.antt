-- What a pass stores fits what its seat knows, after a split and a join.
use Rattle.std.proofs.Common.{◌≡◌, ℕ, ◌+◌, ◌-◌, ◌^◌, ◌<◌, ◌≤◌, true, false, [], ◌∷◌, ◌++◌, length, sym, refl}
use Rattle.std.proofs.Common.{ap, ◌∙◌, subst, ⊎_elim, arith}
use Rattle.std.proofs.lemmas.Bool.{cases_lt}
use Rattle.call_history.specs.declared.entry.Entry.{Entry}
use Rattle.call_history.specs.Entries.{History, PlacedList, by, entries_by}
use Rattle.call_history.proofs.Placing.{by-append, by-cons_own}
use Rattle.turn_lock.specs.declared.view.View.{View}
use Rattle.turn_lock.specs.Views.{Owns}
use Rattle.turn_lock.specs.Steps.{Seated, counted_view, lower_view, upper_view, joined_view}
use Rattle.turn_lock.specs.Seats.{IsPass}
use Rattle.turn_lock.proofs.Shares.{by-under, by-under_none, by-over, by-over_none, by_not_own, by_past}
use Rattle.turn_lock.proofs.Shares.{by_mine}

module _ {C R : Type 0} where
  -- a caller's entries if the last one is its own
  by_after_call : (who k : ℕ) (past mine : PlacedList C R) (e : Entry C R) → by who mine ≡ mine → e.who ≡ who
      → by who (past ++ (mine ++ (k, e) ∷ [])) ≡ by who past ++ (mine ++ (k, e) ∷ [])
  by_after_call who k past mine e own is =
      by-append who past (mine ++ (k, e) ∷ []) ∙ ap (λ (l : PlacedList C R). by who past ++ l)
      (by-append who mine ((k, e) ∷ []) ∙ (ap (λ (l : PlacedList C R). l ++ by who ((k, e) ∷ [])) own
      ∙ ap (λ (l : PlacedList C R). mine ++ l) (by-cons_own who (k, e) [] is)))

  -- the caller's entries in what it has seen after a call: the views are the pass's before, with the turn, after the count and after the release
  pub own_after_call : (who : ℕ) (before held counted after : View C R) (h : History C R) (e : Entry C R)
      → who ≡ before.who → by who before.mine ≡ before.mine → e.who ≡ who
      → held ≡ record before { turn = true; seen = h } → counted ≡ counted_view held (e ∷ [])
      → after ≡ record counted { turn = false }
      → by who (counted.past ++ counted.mine) ≡ entries_by who counted.seen
      → entries_by before.who after.seen ≡ by before.who before.past ++ after.mine
  own_after_call who before held counted after h e whose own is taken made freed all =
      let past_is : counted.past ≡ before.past =
      ap (λ (v : View C R). v.past) made ∙ ap (λ (v : View C R). v.past) taken in
      let mine_is : counted.mine ≡ before.mine ++ (length held.seen, e) ∷ []
      = ap (λ (v : View C R). v.mine) made ∙ ap (λ (v : View C R).
      v.mine ++ (length held.seen, e) ∷ []) taken in
      let mine_is' : after.mine ≡ before.mine ++ (length held.seen, e) ∷ [] =
      ap (λ (v : View C R). v.mine) freed ∙ mine_is in
      subst (λ (w : ℕ). entries_by w after.seen ≡ by w before.past ++ after.mine) whose
      (ap (λ (v : View C R). entries_by who v.seen) freed ∙ (sym all ∙ ((λ i. by who (past_is i ++ mine_is i))
      ∙ (by_after_call who (length held.seen) before.past before.mine e own is
      ∙ ap (λ (l : PlacedList C R). by who before.past ++ l) (sym mine_is')))))

module _ {V C R : Type 0} (m : Seated V C R) (who high left made : ℕ) (is : IsPass m who high left made) where
  pub upper_is : (at give : ℕ) (m' : Seated V C R) → who < at → at < high → give ≤ left
      → m' ≡ (upper_view at give m.0, []) → IsPass m' at high give 0
  upper_is at give m' low top enough e =
      subst (λ (z : Seated V C R). IsPass z at high give 0) (sym e) record {
        bare = refl;
        idle = is.idle;
        who_is = refl;
        high_is = is.high_is;
        left_is = refl;
        made_is = refl;
        some_number = top;
        small = let most = is.small in omega arith;
        mine_own = refl;
        past_own = λ caller other. ⊎_elim (λ l. by-over_none caller at m.0.past l)
            (λ (h : at ≤ caller). by-over caller at m.0.past h ∙ is.past_own caller (λ owns. other (h, owns.1)))
            (cases_lt caller at);
      }

  pub lower_is : (at give : ℕ) (m' : Seated V C R) → who < at → at < high → give ≤ left
      → m' ≡ (lower_view at give m.0, []) → IsPass m' who at (left - give) made
  lower_is at give m' low top enough e =
      subst (λ (z : Seated V C R). IsPass z who at (left - give) made) (sym e) record {
        bare = refl;
        idle = is.idle;
        who_is = is.who_is;
        high_is = refl;
        left_is = ap (λ n. n - give) is.left_is;
        made_is = is.made_is;
        some_number = low;
        small = let most = is.small in omega arith;
        mine_own = is.mine_own;
        past_own = λ caller other. ⊎_elim
            (λ (l : caller < at). by-under caller at m.0.past l ∙ is.past_own caller (λ owns. other (owns.0, l)))
            (λ h. by-under_none caller at m.0.past h)
            (cases_lt caller at);
      }

  -- no entries but those of the pass's numbers, its own among them
  pub others_none : (caller : ℕ) → ¬ Owns m.0 caller → by caller (m.0.past ++ m.0.mine) ≡ []
  others_none caller other =
      let wide = is.some_number in let from = is.who_is in let to = is.high_is in
      by_mine caller m.0.past m.0.mine (is.past_own caller other)
      ∙ by_not_own caller who m.0.mine is.mine_own (λ e. other (omega arith, omega arith))

  module _ (n : Seated V C R) (who' high' left' made' : ℕ) (is' : IsPass n who' high' left' made')
      (next : who' ≡ high) where
    others_none' : (caller : ℕ) → ¬ Owns n.0 caller → by caller (n.0.past ++ n.0.mine) ≡ []
    others_none' caller other =
        let wide = is'.some_number in let from = is'.who_is in let to = is'.high_is in
        by_mine caller n.0.past n.0.mine (is'.past_own caller other)
        ∙ by_not_own caller who' n.0.mine is'.mine_own (λ e. other (omega arith, omega arith))

    -- the entries of a caller of the first pass in the joined past, and those of one of the second
    pub same_past : (caller : ℕ) → caller < high
        → by caller (m.0.past ++ (n.0.past ++ n.0.mine)) ≡ by caller m.0.past
    same_past caller l =
        by_past caller m.0.past (n.0.past ++ n.0.mine)
        (others_none' caller (λ owns. let a = owns.0 in let from = is'.who_is in omega arith))

    pub other_past : (caller : ℕ) → high ≤ caller
        → by caller (m.0.past ++ (n.0.past ++ n.0.mine)) ≡ by caller (n.0.past ++ n.0.mine)
    other_past caller h =
        by_mine caller m.0.past (n.0.past ++ n.0.mine)
        (is.past_own caller (λ owns. let a = owns.1 in let to = is.high_is in omega arith))

    pub first_past : by n.0.who (m.0.past ++ (n.0.past ++ n.0.mine)) ≡ by n.0.who n.0.past ++ n.0.mine
    first_past =
        subst (λ (w : ℕ). by w (m.0.past ++ (n.0.past ++ n.0.mine)) ≡ by w n.0.past ++ n.0.mine) is'.who_is
        (other_past who' (omega arith) ∙ (by-append who' n.0.past n.0.mine
        ∙ ap (λ (l : PlacedList C R). by who' n.0.past ++ l) is'.mine_own))

    pub others_past : (caller : ℕ) → who' < caller
        → by caller (m.0.past ++ (n.0.past ++ n.0.mine)) ≡ by caller n.0.past
    others_past caller l =
        other_past caller (omega arith) ∙ by_past caller n.0.past n.0.mine
        (by_not_own caller who' n.0.mine is'.mine_own (λ e. absurd (omega arith)))

    pub joined_is : (m' : Seated V C R) → left + left' + made ≤ 2 ^ 40 → m' ≡ (joined_view m.0 n.0, [])
        → IsPass m' who high' (left + left') made
    joined_is m' fit e = subst (λ (z : Seated V C R). IsPass z who high' (left + left') made) (sym e) record {
      bare = refl;
      idle = is.idle;
      who_is = is.who_is;
      high_is = is'.high_is;
      left_is = λ i. is.left_is i + is'.left_is i;
      made_is = is.made_is;
      some_number = let a = is.some_number in let b = is'.some_number in omega arith;
      small = fit;
      mine_own = is.mine_own;
      past_own = λ caller other. ⊎_elim
          (λ (l : caller < high). same_past caller l
          ∙ is.past_own caller (λ owns. let a = owns.1 in let b = is'.some_number in
          let to = is'.high_is in other (owns.0, omega arith)))
          (λ (h : high ≤ caller). other_past caller h
          ∙ others_none' caller (λ owns. let a = is.some_number in let from = is.who_is in
          other (omega arith, owns.1)))
          (cases_lt caller high);
    }
