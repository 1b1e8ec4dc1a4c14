-- What a script's path means after a listing: a star is a name of it, by number.
use Rattle.std.specs.Prelude.{ℕ, Bool, ◌&&◌, nat_le, List, ◌∷◌, length, map, slice_get, Option}
use Rattle.std.specs.Prelude.{Some, None, if◌then◌else◌}
use Rattle.text_words.specs.Numbers.{decimal_of}
use Rattle.mount_limits.specs.declared.TheConstants.{MAX_PART_BYTES}
use Rattle.script_words.specs.Path.{may_be_part}
use Rattle.script_words.specs.declared.path.ScriptPart.{ScriptPart}
use Rattle.script_words.specs.declared.path.ScriptPart.TheVariants.{Given, Star}

-- whether a mount may be asked for the name as a part of a path
abbrev pub could_be_part : List ℕ → Bool
could_be_part name = (nat_le 1 (length name) && nat_le (length name) MAX_PART_BYTES) && may_be_part name

-- a star's own text
abbrev pub star_text : ℕ → List ℕ
star_text number = 42 ∷ decimal_of number

-- the name, if there is one that could be a part, and else the star's own text
abbrev pub name_or_star : ℕ → Option (List ℕ) → List ℕ
name_or_star number None = star_text number
name_or_star number (Some name) = if could_be_part name then name else star_text number

-- what a part means if these are the names of the caller's last listing
abbrev pub resolved_part : List (List ℕ) → ScriptPart → List ℕ
resolved_part names (Given bytes) = bytes
resolved_part names (Star number) = name_or_star number (slice_get names number)

-- what a path means
abbrev pub resolved_path : List (List ℕ) → List ScriptPart → List (List ℕ)
resolved_path names path = map (resolved_part names) path
