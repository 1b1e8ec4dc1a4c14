-- The wraps on the lines of a policy's record.
use Rattle.std.specs.Prelude.{ℕ, is_none, List, [], ◌∷◌, codes, Option, Some, None, if◌then◌else◌}
use Rattle.text_words.specs.Digits.{lower_hex_bytes_of_length}
use Rattle.text_words.specs.Words.{words_of}
use Rattle.short_bytes.specs.Label.{label_of}
use Rattle.protector_meta.specs.declared.wraps.Wrap.{Wrap}
use Rattle.protector_meta.specs.LineValues.{word_value}
use Rattle.protector_meta.specs.Wraps.{adding_fault}
use Rattle.protector_meta.specs.PolicyLines.{◌>>=◌}

-- the wrap that four words spell
abbrev pub wrap_of_words : List (List ℕ) → Option Wrap
wrap_of_words (label ∷ iv ∷ key ∷ tag ∷ []) = do
  protector ← label_of label
  iv ← lower_hex_bytes_of_length 16 iv
  key ← lower_hex_bytes_of_length 64 key
  tag ← lower_hex_bytes_of_length 32 tag
  let wrap : Wrap = record { protector = protector; iv = iv; key = key; tag = tag } in Some wrap
wrap_of_words _ = None

-- the wrap that a line spells
unfoldable pub wrap_value : List ℕ → Option Wrap
wrap_value line = word_value (codes "wrap ") (λ text. wrap_of_words (words_of text)) line

-- the same, if it can be added after others
abbrev pub next_wrap : List Wrap → List ℕ → Option Wrap
next_wrap wraps line = do
  wrap ← wrap_value line
  if is_none (adding_fault wrap.protector wraps) then Some wrap else None
