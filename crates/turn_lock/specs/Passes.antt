-- What a pass knows, and what becomes of that at a call.
use Rattle.std.specs.Prelude.{◌≡◌, ℕ, ◌<◌, ◌-◌, [], ◌∷◌, ◌++◌, length}
use Rattle.atomic_table.specs.Seated.{TableId}
use Rattle.call_history.specs.declared.entry.Entry.{Entry}
use Rattle.call_history.specs.Entries.{History, PlacedList, by, history_in_order}
use Rattle.call_history.specs.Prefix.{IsPrefix}

-- a shared machine: which one it is, and what it was started with
pub record SharedView : Type 0 where
  pub table : TableId
  pub numbers : ℕ
  pub allowance : ℕ

-- a pass: the shared machine that made it, the caller numbers from `who` to below `high`, and the calls
-- left. seen begins the history, mine has the pass's own entries, past those of ended passes that it took
-- in
pub record PassView (C R : Type 0) : Type 0 where
  pub table : TableId
  pub who : ℕ
  pub high : ℕ
  pub left : ℕ
  pub seen : History C R
  pub mine : PlacedList C R
  pub past : PlacedList C R

module _ {C R : Type 0} where
  -- the entries that ended passes made under a caller's number
  abbrev pub past_of : PassView C R → ℕ → PlacedList C R
  past_of pass caller = by caller pass.past

  -- the history that all entries of a pass make, in order of place
  abbrev pub merged_entries : PassView C R → History C R
  merged_entries pass = history_in_order (pass.past ++ pass.mine)

  abbrev pub first_pass : TableId → ℕ → ℕ → PassView C R
  first_pass table numbers allowance =
      record { table = table; who = 0; high = numbers; left = allowance; seen = []; mine = []; past = [] }

  -- after a call that found this history before it
  abbrev pub after_call : PassView C R → History C R → Entry C R → PassView C R
  after_call pass before entry = record pass {
    left = pass.left - 1;
    seen = before ++ entry ∷ [];
    mine = pass.mine ++ (length before, entry) ∷ [];
  }

  -- a pass with a call left made this entry: its place is the length of a history that begins with all
  -- that the pass had seen
  abbrev pub IsMadeAt : PassView C R → PassView C R → ℕ → Entry C R → Type 0
  IsMadeAt old new place entry =
      (0 < old.left) × ((before : History C R) × IsPrefix old.seen before × (place ≡ length before)
      × (new ≡ after_call old before entry))
