-- To which nodes entries may refer, and the first entry line whose child is not allowed.
use Rattle.std.specs.Prelude.{ℕ, ◌+◌, ◌==◌, ◌&&◌, Bool, not, nat_eq}
use Rattle.std.specs.Prelude.{List, [], ◌∷◌, Option, Some, None, if◌then◌else◌}
use Rattle.std.specs.List.{list_any}
use Rattle.text_words.specs.Lines.{pieces_of}
use Rattle.image_lines.specs.Image.{numbers_of}
use Rattle.image_lines.specs.Lines.{entry_of_line}
use Rattle.image_lines.specs.WordForms.{nodes_at}

-- whether an entry may refer to a child: to a node of the image other than the root, to which no earlier
-- entry refers
abbrev pub may_name_child : List ℕ → List ℕ → ℕ → Bool
may_name_child numbers earlier child =
    not (child == 0) && (list_any (nat_eq child) numbers && not (list_any (nat_eq child) earlier))

-- go on after a line, unless it is an entry that may not refer to its child
abbrev pub after_entry : ℕ → List ℕ → List ℕ → Option (List ℕ × ℕ) → (List ℕ → Option ℕ) → Option ℕ
after_entry number numbers earlier None go_on = go_on earlier
after_entry number numbers earlier (Some entry) go_on =
    if may_name_child numbers earlier entry.1 then go_on (entry.1 ∷ earlier) else Some number

-- in lines from this number on, the number of the first entry line whose child is not allowed
unfoldable pub child_fault_from : ℕ → List ℕ → List ℕ → List (List ℕ) → Option ℕ
child_fault_from number numbers earlier [] = None
child_fault_from number numbers earlier (line ∷ lines) =
    after_entry number numbers earlier (entry_of_line line)
    (λ earlier. child_fault_from (number + 1) numbers earlier lines)

-- the first entry line whose child is not allowed, counted from 1
abbrev pub child_fault : List ℕ → Option ℕ
child_fault text = child_fault_from 1 (numbers_of (nodes_at (pieces_of text))) [] (pieces_of text)
