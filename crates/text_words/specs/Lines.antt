-- Lines of a text: each is ended by a line feed, and what follows the last line feed is a piece that
-- nothing ended.
use Rattle.std.specs.Prelude.{ℕ, ◌==◌, ◌+◌, ◌-◌, Bool, true, List, [], ◌∷◌, ◌++◌, length, slice_get, count_by, if◌then◌else◌}
use Rattle.std.specs.List.{slice_split}
use Rattle.std.specs.Option.{option_map_or}

-- whether the byte is a line feed
abbrev pub is_line_feed : ℕ → Bool
is_line_feed b = b == 10

-- the text before, between and after the line feeds: one piece more than there are line feeds
abbrev pub pieces_of : List ℕ → List (List ℕ)
pieces_of text = slice_split is_line_feed text

-- whether no piece is left unended: the text is empty, or its last byte is a line feed
abbrev pub is_ended : List ℕ → Bool
is_ended text = option_map_or is_line_feed (slice_get text (length text - 1)) true

-- how many lines a text has, a last piece that nothing ended counted as one
abbrev pub line_count : List ℕ → ℕ
line_count text = count_by is_line_feed text + (if is_ended text then 0 else 1)

-- the text of these lines, each ended by a line feed
abbrev pub ended : List (List ℕ) → List ℕ
ended [] = []
ended (line ∷ lines) = line ++ 10 ∷ ended lines
