-- Which bytes may be a part of a path.
use Rattle.std.specs.Prelude.{ℕ, ◌==◌, Bool, not, ◌&&◌, ◌||◌, List, codes}
use Rattle.std.specs.List.{list_any}
use Rattle.std.specs.Str.{bytes_eq}

-- whether the byte is `/`
abbrev pub is_slash : ℕ → Bool
is_slash b = b == 47

-- whether the byte is `/` or NUL
abbrev pub is_slash_or_nul : ℕ → Bool
is_slash_or_nul b = is_slash b || b == 0

-- whether the bytes are `.` or `..`
abbrev pub is_dots : List ℕ → Bool
is_dots bytes = bytes_eq bytes (codes ".") || bytes_eq bytes (codes "..")

-- whether the bytes may be a part: none is `/` or NUL, and they are neither `.` nor `..`
abbrev pub may_be_part : List ℕ → Bool
may_be_part bytes = not (list_any is_slash_or_nul bytes) && not (is_dots bytes)
