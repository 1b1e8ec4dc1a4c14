-- The text of a listing: a line for each node that is listed.
use Rattle.std.specs.Prelude.{ℕ, List, ◌∷◌, ◌++◌, codes, map, Option, None, Some}
use Rattle.hex.specs.Hex.{encode_lower}
use Rattle.text_words.specs.Numbers.{decimal_of}
use Rattle.image_lines.specs.ImageText.{ended}

-- a body as it is listed:
-- - a directory with its number of entries;
-- - a file with its size, and the digest of its contents if they can be read;
-- - a link with the word of its target
pub data ListedBody : Type 0 where
  Dir : ℕ → ListedBody
  File : ℕ → Option (List ℕ) → ListedBody
  Link : List ℕ → ListedBody

-- a node with the number of its parent and the word of its name there; the root has neither
pub record ListedNode : Type 0 where
  pub number : ℕ
  pub place : Option (ℕ × List ℕ)
  pub body : ListedBody

abbrev pub place_text : Option (ℕ × List ℕ) → List ℕ
place_text None = codes "- /"
place_text (Some place) = decimal_of place.0 ++ 32 ∷ place.1

-- a digest in digits, or `-`
abbrev pub digest_text : Option (List ℕ) → List ℕ
digest_text None = codes "-"
digest_text (Some digest) = encode_lower digest

abbrev pub body_text : ListedBody → List ℕ
body_text (Dir count) = codes "dir " ++ decimal_of count
body_text (File size digest) = codes "file " ++ (decimal_of size ++ 32 ∷ digest_text digest)
body_text (Link word) = codes "link " ++ word

abbrev pub line_text : ListedNode → List ℕ
line_text node = decimal_of node.number ++ 32 ∷ (place_text node.place ++ 32 ∷ body_text node.body)

-- each line is ended by a line feed
abbrev pub listing_text : List ListedNode → List ℕ
listing_text nodes = ended (map line_text nodes)
