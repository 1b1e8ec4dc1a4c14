-- The effect of the changes, and that two maps which agree under a function of the values agree after the
-- same change.
use Rattle.std.specs.Prelude.{◌≡◌, ◌≢◌, ℕ, ◌+◌, ◌-◌, Some, None, map, option_map}
use Rattle.number_map.specs.Numbered.{NumberedValues, get, insert, remove, len, entries, changed, AgreesUnder}

-- the effect of a change at its number
pub record LeavesHere (V : Type 0) : Type 0 where
  pub inserted : (m : NumberedValues V) (k : ℕ) (v : V) → get (insert m k v) k ≡ Some v
  pub removed : (m : NumberedValues V) (k : ℕ) → get (remove m k) k ≡ None
  pub changed_value : (m : NumberedValues V) (k : ℕ) (f : V → V)
      → get (changed m k f) k ≡ option_map f (get m k)

-- and at each other number
pub record LeavesOthers (V : Type 0) : Type 0 where
  pub inserted : (m : NumberedValues V) (k : ℕ) (v : V) (q : ℕ) → (q ≢ k) → get (insert m k v) q ≡ get m q
  pub removed : (m : NumberedValues V) (k q : ℕ) → (q ≢ k) → get (remove m k) q ≡ get m q
  pub changed_value : (m : NumberedValues V) (k : ℕ) (f : V → V) (q : ℕ) → (q ≢ k)
      → get (changed m k f) q ≡ get m q

-- the number of values
pub record Counts (V : Type 0) : Type 0 where
  pub added : (m : NumberedValues V) (k : ℕ) (v : V) → get m k ≡ None → len (insert m k v) ≡ len m + 1
  pub replaced : (m : NumberedValues V) (k : ℕ) (v old : V) → get m k ≡ Some old → len (insert m k v) ≡ len m
  pub removed : (m : NumberedValues V) (k : ℕ) (old : V) → get m k ≡ Some old → len (remove m k) ≡ len m - 1
  pub changed_value : (m : NumberedValues V) (k : ℕ) (f : V → V) → len (changed m k f) ≡ len m

-- a value that is inserted and removed leaves the map unchanged, and changes at two numbers commute
pub record Commutes (V : Type 0) : Type 0 where
  pub taken_back : (m : NumberedValues V) (k : ℕ) (v : V) → get m k ≡ None → remove (insert m k v) k ≡ m
  pub with_insert : (m : NumberedValues V) (k x : ℕ) (v : V) (f : V → V) → (k ≢ x)
      → changed (insert m x v) k f ≡ insert (changed m k f) x v
  pub with_remove : (m : NumberedValues V) (k x : ℕ) (f : V → V) → (k ≢ x)
      → remove (changed m k f) x ≡ changed (remove m x) k f

-- maps with the same value at each number are equal
abbrev pub SameMaps : Type 0 → Type 0
SameMaps V = (m n : NumberedValues V) → ((q : ℕ) → get m q ≡ get n q) → m ≡ n

-- the same change on both sides preserves the agreement
pub record KeepsAgreement {V W : Type 0} (f : V → W) : Type 0 where
  pub inserted : (plain : NumberedValues V) (stored : NumberedValues W) (k : ℕ) (v : V) (w : W)
      → AgreesUnder f plain stored → w ≡ f v → AgreesUnder f (insert plain k v) (insert stored k w)
  pub changed_value : (plain : NumberedValues V) (stored : NumberedValues W) (k : ℕ) (g : V → V) (h : W → W)
      → AgreesUnder f plain stored → ((v : V) → get plain k ≡ Some v → h (f v) ≡ f (g v))
      → AgreesUnder f (changed plain k g) (changed stored k h)
  pub removed : (plain : NumberedValues V) (stored : NumberedValues W) (k : ℕ) → AgreesUnder f plain stored
      → AgreesUnder f (remove plain k) (remove stored k)

-- the entries of the one map are those of the other with f of each value
abbrev pub EntriesAgree : {V W : Type 0} → (V → W) → Type 0
EntriesAgree {V} {W} f = (plain : NumberedValues V) (stored : NumberedValues W) → AgreesUnder f plain stored →
    entries stored ≡ map (λ e. (e.0, f e.1)) (entries plain)

-- the same for an f that may depend on the number too
abbrev pub EntriesAgreeBy : {V W : Type 0} → (ℕ → V → W) → Type 0
EntriesAgreeBy {V} {W} f = (plain : NumberedValues V) (stored : NumberedValues W)
    → ((number : ℕ) → get stored number ≡ option_map (f number) (get plain number))
    → entries stored ≡ map (λ e. (e.0, f e.0 e.1)) (entries plain)
