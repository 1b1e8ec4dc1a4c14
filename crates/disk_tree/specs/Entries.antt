-- The entries of a directory: pairs of a stored name and a node's number, in the order in which they were
-- made. If two have one name, the older is found.
use Rattle.std.specs.Prelude.{ℕ, List, ◌++◌, [], ◌∷◌, Option}
use Rattle.std.specs.Str.{bytes_eq}
use Rattle.std.specs.List.{AllByRecursion}
use Rattle.std.specs.Map.{lookup, remove_entry, keys_of}
use Rattle.byte_words.specs.Bytes.{AreBytes}

abbrev pub Entries : Type 0
Entries = List (List ℕ × ℕ)

-- the numbers of each stored name are bytes
abbrev pub HaveByteNames : Entries → Type 0
HaveByteNames es = AllByRecursion AreBytes (keys_of es)

-- the number under the name
abbrev pub number_under : List ℕ → Entries → Option ℕ
number_under name = lookup (bytes_eq name)

-- a new entry is the last
abbrev pub with_entry : List ℕ → ℕ → Entries → Entries
with_entry name number es = es ++ (name, number) ∷ []

-- the others stay in order
abbrev pub without_entry : List ℕ → Entries → Entries
without_entry name = remove_entry (bytes_eq name)
