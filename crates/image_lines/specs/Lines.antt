-- What the lines of an image contain, one by one.
use Rattle.std.specs.Prelude.{ℕ, List, [], ◌∷◌, codes, Option, Some, None, is_some}
use Rattle.text_words.specs.Digits.{lower_hex_bytes_of_length}
use Rattle.text_words.specs.Words.{rest_after, words_of}
use Rattle.mount_limits.specs.declared.TheConstants.{BLOCK_SIZE}
use Rattle.image_lines.specs.declared.node_line.NodeLine.{NodeLine}
use Rattle.image_lines.specs.Words.{◌>>=◌, number_of_word, stored_name_of_word, context_of_word, kind_of_word}

-- the node that words describe: its number, its kind, its context, and the size or the target
abbrev pub node_of : List ℕ → List ℕ → List ℕ → Option (List ℕ) → Option NodeLine
node_of number kind context last = do
  number ← number_of_word number
  context ← context_of_word context
  kind ← kind_of_word kind (is_some context) last
  let node : NodeLine = record { number = number; context = context; kind = kind } in Some node

abbrev pub node_of_words : List (List ℕ) → Option NodeLine
node_of_words (number ∷ kind ∷ context ∷ []) = node_of number kind context None
node_of_words (number ∷ kind ∷ context ∷ last ∷ []) = node_of number kind context (Some last)
node_of_words other = None

-- the entry that words describe: the child's number, and the stored name
abbrev pub entry_of_words : List (List ℕ) → Option (List ℕ × ℕ)
entry_of_words (child ∷ name ∷ []) = do
  child ← number_of_word child
  name ← stored_name_of_word name
  Some (name, child)
entry_of_words other = None

unfoldable pub node_of_line : List ℕ → Option NodeLine
node_of_line line = rest_after (codes "node ") line >>= λ rest. node_of_words (words_of rest)

unfoldable pub entry_of_line : List ℕ → Option (List ℕ × ℕ)
entry_of_line line = rest_after (codes "entry ") line >>= λ rest. entry_of_words (words_of rest)

unfoldable pub block_of_line : List ℕ → Option (List ℕ)
block_of_line line = rest_after (codes "block ") line >>= lower_hex_bytes_of_length BLOCK_SIZE
