-- Names that are cached, each with the node that it resolves to, in the order of their last use, latest
-- first.
use Rattle.std.specs.Prelude.{ℕ, Bool, List, [], not, ◌&&◌, ◌==◌, Option}
use Rattle.std.specs.Map.{lookup}
use Rattle.std.specs.Str.{bytes_eq}
use Rattle.dentry_cache.specs.declared.key.NameKey.{NameKey}

-- a name of a directory, with the number of the node that it resolves to
abbrev pub Pair : Type 0
Pair = NameKey × ℕ

pub record NameList : Type 0 where
  pub pairs : List Pair
  -- how often a name was not cached, since there was no memory
  pub refused : ℕ

abbrev pub no_names : NameList
no_names = record { pairs = []; refused = 0 }

abbrev pub with_pairs : NameList → List Pair → NameList
with_pairs names pairs = record names { pairs = pairs }

abbrev pub key_of : ℕ → List ℕ → NameKey
key_of dir name = record { dir = dir; name = name }

-- whether the key is this name of this directory
abbrev pub is_name : ℕ → List ℕ → NameKey → Bool
is_name dir name key = (dir == key.dir) && bytes_eq name key.name

-- whether the pair is of this directory, and of another one
abbrev pub is_in : ℕ → Pair → Bool
is_in dir pair = pair.0.dir == dir

abbrev pub is_elsewhere : ℕ → Pair → Bool
is_elsewhere dir pair = not (is_in dir pair)

-- the node that the name resolves to, if that is cached
abbrev pub cached_node : NameList → ℕ → List ℕ → Option ℕ
cached_node names dir name = lookup (is_name dir name) names.pairs
