-- Records: bytes under names, each with a version, in the order in which they were first stored.
use Rattle.std.specs.Prelude.{ℕ, List, [], ◌∷◌, Option, if◌then◌else◌}
use Rattle.std.specs.Option.{option_map_or}
use Rattle.std.specs.Map.{lookup}
use Rattle.std.specs.Str.{bytes_eq}

-- names, and under each a version and bytes
abbrev pub RecordList : Type 0
RecordList = List (List ℕ × (ℕ × List ℕ))

-- the version and the bytes of the record of that name
abbrev pub record_of : RecordList → List ℕ → Option (ℕ × List ℕ)
record_of records name = lookup (λ kept. bytes_eq kept name) records

-- the version of the record of that name; 0 if there is none
abbrev pub version_of : RecordList → List ℕ → ℕ
version_of records name = option_map_or (λ found. found.0) (record_of records name) 0

-- a record that is there is replaced in its place; a new one is appended
abbrev pub with_record : RecordList → List ℕ → ℕ → List ℕ → RecordList
with_record [] name version bytes = (name, (version, bytes)) ∷ []
with_record (r ∷ rs) name version bytes =
    if bytes_eq r.0 name then (name, (version, bytes)) ∷ rs else r ∷ with_record rs name version bytes
