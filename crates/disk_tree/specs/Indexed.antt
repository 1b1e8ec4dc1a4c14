-- How the entries of a directory are stored: in the order in which they were made, and by the hash of the
-- name.
use Rattle.std.specs.Prelude.{◌≡◌, ℕ, nat_eq, Bool, false, List, map, Option}
use Rattle.std.specs.Str.{bytes_eq}
use Rattle.std.specs.Ordering.{nat_cmp}
use Rattle.std.specs.declared.cmp.Ordering.TheVariants.{Less}
use Rattle.std.specs.List.{AllByRecursion, IsDistinct}
use Rattle.std.specs.List.Sorted.{IsStrictlySortedBy}
use Rattle.std.specs.Map.{lookup, keys_of, values_of}
use Rattle.disk_tree.specs.Entries.{HaveByteNames}
use Rattle.disk_tree.specs.NameIndex.{Index, hash_of, indexed_entry}

-- each entry under its place
abbrev pub OrderedEntries : Type 0
OrderedEntries = List (ℕ × (List ℕ × ℕ))

-- the entries, each with its place, under their names
abbrev pub by_name : OrderedEntries → List (List ℕ × (ℕ × ℕ))
by_name order = map (λ e. (e.1.0, (e.0, e.1.1))) order

-- the oldest entry of this name
abbrev pub oldest : OrderedEntries → List ℕ → Option (ℕ × ℕ)
oldest order name = lookup (bytes_eq name) (by_name order)

-- the entries, each with its place, under the hashes of their names
abbrev pub by_hash : OrderedEntries → List (ℕ × (ℕ × ℕ))
by_hash order = map (λ e. (hash_of e.1.0, (e.0, e.1.1))) order

-- the oldest entry whose name has this hash
abbrev pub oldest_of_hash : OrderedEntries → ℕ → Option (ℕ × ℕ)
oldest_of_hash order hash = lookup (nat_eq hash) (by_hash order)

-- every place is below this one
abbrev pub AreBelow : ℕ → OrderedEntries → Type 0
AreBelow next order = AllByRecursion (λ place. nat_cmp place next ≡ Less) (keys_of order)

-- Places rise, and names are bytes. While no two entries have had names of one hash, the hashes are
-- distinct and the index has each
pub record IsIndexed (order : OrderedEntries) (index : Index) (next : ℕ) (doubled : Bool) : Type 0 where
  pub rising : IsStrictlySortedBy nat_cmp (keys_of order)
  pub below : AreBelow next order
  pub ranged : HaveByteNames (values_of order)
  pub apart : doubled ≡ false → IsDistinct nat_eq (keys_of (by_hash order))
  pub named : doubled ≡ false → (hash : ℕ) → indexed_entry index hash ≡ oldest_of_hash order hash
