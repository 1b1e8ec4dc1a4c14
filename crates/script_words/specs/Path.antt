-- Paths of a script: `/`, or a `/` before each of 1 to 32 parts.
use Rattle.std.specs.Prelude.{ℕ, ◌^◌, ◌<◌, ◌≤◌, ◌==◌, not, nat_le, IsTrue, List, [], ◌∷◌, length, Option}
use Rattle.std.specs.Prelude.{Some, None, if◌then◌else◌}
use Rattle.std.specs.List.{All, slice_split}
use Rattle.std.specs.Option.{option_map, option_or}
use Rattle.text_words.specs.Numbers.{number_below}
pub use Rattle.text_words.specs.Parts.{is_dots, is_slash, is_slash_or_nul, may_be_part}
use Rattle.script_words.specs.Word.{IsWord, word_bytes, passing}
use Rattle.script_words.specs.declared.limits.TheConstants.{MAX_PARTS}
use Rattle.script_words.specs.declared.path.ScriptPart.{ScriptPart}
use Rattle.script_words.specs.declared.path.ScriptPart.TheVariants.{Given, Star}

-- the number of a star: `*` and a decimal number, unescaped
abbrev pub star_number : List ℕ → Option ℕ
star_number [] = None
star_number (c ∷ number) = if c == 42 then number_below (2 ^ 32) number else None

-- the part that a text spells: a star, or a word that may be a part
unfoldable pub part_of : List ℕ → Option ScriptPart
part_of text =
    option_or (option_map Star (star_number text)) (option_map Given (passing may_be_part (word_bytes text)))

-- a part before others, if all are there
abbrev pub before_parts : Option ScriptPart → Option (List ScriptPart) → Option (List ScriptPart)
before_parts None parts = None
before_parts (Some part) None = None
before_parts (Some part) (Some parts) = Some (part ∷ parts)

-- the parts that texts spell, if each spells one
abbrev pub parts_of : List (List ℕ) → Option (List ScriptPart)
parts_of [] = Some []
parts_of (text ∷ texts) = before_parts (part_of text) (parts_of texts)

-- the same, if there are at most 32 texts
abbrev pub few_parts : List (List ℕ) → Option (List ScriptPart)
few_parts texts = if nat_le (length texts) MAX_PARTS then parts_of texts else None

-- the path that a text spells: `/` is the root; else the parts are the texts between the slashes, after
-- the first
unfoldable pub path_of : List ℕ → Option (List ScriptPart)
path_of [] = None
path_of (first ∷ rest) =
    if not (is_slash first) then None else if length rest == 0 then Some []
    else few_parts (slice_split is_slash rest)

-- the parts that are possible: a word without `/` and NUL that is neither `.` nor `..`, or a star with a
-- number below 2^32
abbrev pub IsPart : ScriptPart → Type 0
IsPart (Given bytes) = IsWord bytes × IsTrue (may_be_part bytes)
IsPart (Star number) = number < 2 ^ 32

-- the paths that are possible: at most 32 parts
pub record IsPath (parts : List ScriptPart) : Type 0 where
  pub bounded : length parts ≤ MAX_PARTS
  pub each : All IsPart parts
