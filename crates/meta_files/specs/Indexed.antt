-- How a record is found by its name; definitions for private functions.
use Rattle.std.specs.Prelude.{◌≡◌, ℕ, List, Option, position}
use Rattle.std.specs.Str.{bytes_eq}
use Rattle.std.specs.Ordering.{nat_cmp, is_eq}
use Rattle.std.specs.Cmp.Lexicographic.{slice_cmp}
use Rattle.std.specs.Map.{lookup}
use Rattle.std.specs.declared.vec.Vec.{Vec}
use Rattle.std.specs.declared.alloc.Global.{Global}
use Rattle.meta_files.specs.declared.files.Record.{Record}

-- the place of each name
abbrev pub Index : Type 0
Index = List (Vec ℕ Global × ℕ)

-- what the index has under the name
abbrev pub indexed : Index → List ℕ → Option ℕ
indexed index name = lookup (λ k. is_eq (slice_cmp nat_cmp name k.items)) index

-- the place of the record of that name
abbrev pub place_in : List Record → List ℕ → Option ℕ
place_in records name = position (λ kept. bytes_eq kept.name name) records

-- the index has the place of each record under its name, and has no other name
abbrev pub IsIndexed : List Record → Index → Type 0
IsIndexed records index = (name : List ℕ) → indexed index name ≡ place_in records name
