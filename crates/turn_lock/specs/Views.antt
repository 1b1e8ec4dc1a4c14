-- What a seat knows, when that is so, and what the first seat knows.
use Rattle.std.specs.Prelude.{◌≡◌, ◌≢◌, ℕ, ◌<◌, ◌≤◌, true, false, List, [], ◌++◌, sum_by}
use Rattle.call_history.specs.Entries.{History, by, entries_by}
use Rattle.call_history.specs.Prefix.{IsPrefix}
use Rattle.turn_lock.specs.declared.view.View.{View}

module _ {C R : Type 0} where
  -- the caller's number is one of the seat's
  abbrev pub Owns : View C R → ℕ → Type 0
  Owns v caller = (v.who ≤ caller) × (caller < v.high)

  -- what seat j knows is so, if the holder is the seat that has the turn, if any has it
  pub record Knows (numbers : ℕ) (history : History C R) (turn holder j : ℕ) (v : View C R) : Type 0 where
    pub begins : IsPrefix v.seen history
    pub known_begins : IsPrefix v.told history
    pub holds_turn : v.turn ≡ true → (turn ≢ 0) × (j ≡ holder) × (v.seen ≡ history) × (v.who < v.high)
    pub below : v.high ≤ numbers
    pub own : (caller : ℕ) → Owns v caller → by caller (v.past ++ v.mine) ≡ entries_by caller history

  abbrev pub calls_left_of_views : List (View C R) → ℕ
  calls_left_of_views views = sum_by (λ v. v.left) views

  -- no number is owned by both
  abbrev pub AreApart : View C R → View C R → Type 0
  AreApart v w = (caller : ℕ) → Owns v caller → Owns w caller → ⊥

  -- what the first seat knows, and what a seat knows that another took in
  abbrev pub first_view : ℕ → ℕ → View C R
  first_view numbers allowance = record {
    who = 0;
    high = numbers;
    left = allowance;
    turn = false;
    seen = [];
    told = [];
    mine = [];
    past = [];
  }

  abbrev pub spent_view : View C R
  spent_view = first_view 0 0
