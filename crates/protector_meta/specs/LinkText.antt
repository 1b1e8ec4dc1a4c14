-- The text of a link: a record under a protector's name for a protector that is stored on another mount.
use Rattle.std.specs.Prelude.{ℕ, List, [], ◌∷◌, ◌++◌, codes}
use Rattle.text_words.specs.Lines.{ended}

-- two lines, each ended by a line feed: what it is, and the protector's label
abbrev pub link_lines : List ℕ → List (List ℕ)
link_lines label = codes "fsc-link 1" ∷ (codes "name " ++ label) ∷ []

unfoldable pub link_text : List ℕ → List ℕ
link_text label = ended (link_lines label)
