-- Labels, by which records and scripts name protectors and policies.
use Rattle.std.specs.Prelude.{ℕ, List, length, Bool, ◌&&◌, ◌||◌, ◌==◌, nat_le}
use Rattle.std.specs.Prelude.{IsTrue, Option, Some, None, if◌then◌else◌}
use Rattle.std.specs.List.{list_all}
use Rattle.short_bytes.specs.declared.label.TheConstants.{MAX_LABEL_BYTES}

-- a small letter, a digit, `_` or `-`
abbrev pub is_label_character : ℕ → Bool
is_label_character c =
    (nat_le 97 c && nat_le c 122) || ((nat_le 48 c && nat_le c 57) || ((c == 95) || (c == 45)))

-- whether the bytes are 1 to 32 such characters
abbrev pub is_label : List ℕ → Bool
is_label bytes =
    nat_le 1 (length bytes) && (nat_le (length bytes) MAX_LABEL_BYTES && list_all is_label_character bytes)

-- the bytes are a label
abbrev pub IsLabel : List ℕ → Type 0
IsLabel bytes = IsTrue (is_label bytes)

-- the label that the bytes are, if they are one
abbrev pub label_of : List ℕ → Option (List ℕ)
label_of bytes = if is_label bytes then Some bytes else None
