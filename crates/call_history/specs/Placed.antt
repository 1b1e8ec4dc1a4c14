-- Entries with places, without their places.
use Rattle.std.specs.Prelude.{map}
use Rattle.call_history.specs.Entries.{History, PlacedList}

abbrev pub entries_of : {C R : Type 0} → PlacedList C R → History C R
entries_of placed = map (λ x. x.1) placed
