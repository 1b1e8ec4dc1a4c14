-- The words for records: `protector/` or `policy/`, and a label.
use Rattle.std.specs.Prelude.{ℕ, ◌++◌, nat_eq, List, drop, codes, Option, None, if◌then◌else◌}
use Rattle.std.specs.List.{starts_with}
use Rattle.std.specs.Option.{option_map}
use Rattle.short_bytes.specs.Label.{IsLabel, label_of}
use Rattle.script_words.specs.declared.record_words.Record.{Record}
use Rattle.script_words.specs.declared.record_words.Record.TheVariants.{Protector, Policy}

-- the record that a word names
abbrev pub record_of : List ℕ → Option Record
record_of word =
    if starts_with nat_eq word (codes "protector/") then option_map Protector (label_of (drop 10 word))
    else if starts_with nat_eq word (codes "policy/") then option_map Policy (label_of (drop 7 word))
    else None

-- the name of a record, which is also its word
abbrev pub record_name : Record → List ℕ
record_name (Protector label) = codes "protector/" ++ label
record_name (Policy label) = codes "policy/" ++ label

-- a record's label is one
abbrev pub IsRecord : Record → Type 0
IsRecord (Protector label) = IsLabel label
IsRecord (Policy label) = IsLabel label
