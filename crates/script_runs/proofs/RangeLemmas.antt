-- Calls in range, put into other orders.
use Rattle.std.proofs.Common.{ℕ, Bool, true, false, [], ◌∷◌, ◌++◌}
use Rattle.std.specs.Prelude.{if◌then◌else◌, nat_le}
use Rattle.std.proofs.lemmas.List.Elements.{All-nil, All-cons, All-head, All-tail}
use Rattle.call_history.specs.Entries.{in_order, insert_in_order}
use Rattle.call_history.specs.Placed.{entries_of}
use Rattle.mount_model.specs.History.{MountEntry}
use Rattle.mount_model.specs.Port.{PlacedCalls}
use Rattle.reply_text.specs.Ranges.{EntryIsInRange}
use Rattle.script_runs.specs.InRange.{AreInRange}
use Rattle.script_runs.specs.RangeLaws.{are_in_range-append}

more_in_range : (x : ℕ × MountEntry) (xs : PlacedCalls) → EntryIsInRange x.1 → AreInRange xs → AreInRange (x ∷ xs)
more_in_range x xs first rest = All-cons EntryIsInRange x.1 (entries_of xs) first rest

first_of : (xs ys : PlacedCalls) → AreInRange (xs ++ ys) → AreInRange xs
first_of [] ys all = All-nil EntryIsInRange
first_of (x ∷ xs) ys all =
    more_in_range x xs (All-head EntryIsInRange x.1 (entries_of (xs ++ ys)) all) (first_of xs ys (All-tail EntryIsInRange x.1 (entries_of (xs ++ ys)) all))

second_of : (xs ys : PlacedCalls) → AreInRange (xs ++ ys) → AreInRange ys
second_of [] ys all = all
second_of (x ∷ xs) ys all = second_of xs ys (All-tail EntryIsInRange x.1 (entries_of (xs ++ ys)) all)

-- with others between
pub in_range_between : (past other mine : PlacedCalls) → AreInRange (past ++ mine) → AreInRange other → AreInRange ((past ++ other) ++ mine)
in_range_between past other mine own others =
    are_in_range-append (past ++ other) mine (are_in_range-append past other (first_of past mine own) others) (second_of past mine own)

in_range-inserted : (x : ℕ × MountEntry) (ys : PlacedCalls) → EntryIsInRange x.1 → AreInRange ys → AreInRange (insert_in_order x ys)
in_range-inserted x [] first all = more_in_range x [] first all
in_range-inserted x (y ∷ ys) first all =
    chosen (nat_le x.0 y.0) (in_range-inserted x ys first (All-tail EntryIsInRange y.1 (entries_of ys) all))
  where
    chosen : (b : Bool) → AreInRange (insert_in_order x ys) → AreInRange (if b then x ∷ y ∷ ys else y ∷ insert_in_order x ys)
    chosen true rest = more_in_range x (y ∷ ys) first all
    chosen false rest = more_in_range y (insert_in_order x ys) (All-head EntryIsInRange y.1 (entries_of ys) all) rest

-- in order of place
pub in_range-merged : (xs : PlacedCalls) → AreInRange xs → AreInRange (in_order xs)
in_range-merged [] all = All-nil EntryIsInRange
in_range-merged (x ∷ xs) all =
    in_range-inserted x (in_order xs) (All-head EntryIsInRange x.1 (entries_of xs) all) (in_range-merged xs (All-tail EntryIsInRange x.1 (entries_of xs) all))
