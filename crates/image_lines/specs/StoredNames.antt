-- Which bytes are allowed as an entry's name or as a link's target.
use Rattle.std.specs.Prelude.{◌&&◌, ℕ, Bool, true, false, nat_le, List, length}
pub use Rattle.text_words.specs.Parts.{is_slash_or_nul, may_be_part}
use Rattle.name_crypt.specs.declared.limits.TheConstants.{MIN_STORED_BYTES, MAX_NAME_BYTES}

-- whether there are from `low` to 255 bytes
abbrev pub is_stored : ℕ → List ℕ → Bool
is_stored low bytes = nat_le low (length bytes) && nat_le (length bytes) MAX_NAME_BYTES

-- whether a directory, under a policy or not, may have the bytes as an entry's name: a part of a path, or
-- under a policy 16 bytes or more
abbrev pub is_entry_name : Bool → List ℕ → Bool
is_entry_name false name = is_stored 1 name && may_be_part name
is_entry_name true name = is_stored MIN_STORED_BYTES name

-- whether a link, under a policy or not, may have the bytes as its target: 1 or more, or under a policy 16
abbrev pub is_target : Bool → List ℕ → Bool
is_target false target = is_stored 1 target
is_target true target = is_stored MIN_STORED_BYTES target
