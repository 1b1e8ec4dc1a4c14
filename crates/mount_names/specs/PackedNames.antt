-- Names stored one after another in one run of bytes.
use Rattle.std.specs.Prelude.{ℕ, List, [], ◌∷◌, take, drop}
use Rattle.plain_tree.specs.Nodes.{Name}

-- the parts that have these lengths
abbrev pub parts_of : List ℕ → List ℕ → List Name
parts_of [] bytes = []
parts_of (n ∷ ns) bytes = take n bytes ∷ parts_of ns (drop n bytes)
