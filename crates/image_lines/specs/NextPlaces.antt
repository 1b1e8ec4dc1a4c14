-- Which lines are allowed at which place, and the place after each of them.
use Rattle.std.specs.Prelude.{ℕ, ◌-◌, ◌==◌, ◌&&◌, Bool, List, Option, Some, None, if◌then◌else◌}
use Rattle.std.specs.Option.{option_map}
use Rattle.std.specs.Ordering.{is_lt, nat_cmp}
use Rattle.std.specs.Str.{bytes_eq}
use Rattle.std.specs.Cmp.Lexicographic.{slice_cmp}
use Rattle.image_lines.specs.declared.place.Place.{Place}
use Rattle.image_lines.specs.declared.place.Place.TheVariants.{AtHeader, AtRoot, InDir, Behind}
use Rattle.image_lines.specs.ImageText.{header}
use Rattle.image_lines.specs.StoredNames.{is_entry_name}
use Rattle.image_lines.specs.Lines.{node_of_line, entry_of_line, block_of_line}
use Rattle.image_lines.specs.Words.{◌>>=◌, passing}
use Rattle.image_lines.specs.NodeLines.{after_node, is_root, next_node}

-- an entry whose name is in range and greater than the last one
abbrev pub next_entry : ℕ → Bool → List ℕ → List ℕ → Option Place
next_entry number under_policy last name =
    if is_entry_name under_policy name && is_lt (slice_cmp nat_cmp last name)
    then Some (InDir number under_policy name) else None

-- in a directory: one more entry, or the next node
abbrev pub in_dir : ℕ → Bool → List ℕ → Option (List ℕ × ℕ) → List ℕ → Option Place
in_dir number under_policy last None line = next_node number line
in_dir number under_policy last (Some entry) line = next_entry number under_policy last entry.0

-- after a file with blocks still to come: one of them
abbrev pub next_block : ℕ → ℕ → List ℕ → Option Place
next_block number left line = option_map (λ block. Behind number (left - 1)) (block_of_line line)

-- the place after the line, if the line is allowed at this one
abbrev pub step : Place → List ℕ → Option Place
step AtHeader line = if bytes_eq line header then Some AtRoot else None
step AtRoot line = option_map after_node (node_of_line line >>= passing is_root)
step (InDir number under_policy last) line = in_dir number under_policy last (entry_of_line line) line
step (Behind number left) line =
    if left == 0 then next_node number line else next_block number left line
