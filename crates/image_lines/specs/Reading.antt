-- How an image is read from its text: the first line that its place doesn't allow, else the first entry
-- line whose child isn't allowed, else the image.
use Rattle.std.specs.Prelude.{ℕ, ◌≡◌, ◌↔◌, List, Option, Some, None, Result, Ok, Err}
use Rattle.text_words.specs.Lines.{pieces_of}
use Rattle.image_lines.specs.Image.{Image}
use Rattle.image_lines.specs.ImageText.{image_text}
use Rattle.image_lines.specs.Rules.{IsImage}
use Rattle.image_lines.specs.LineFaults.{line_fault}
use Rattle.image_lines.specs.WordForms.{nodes_at}
use Rattle.image_lines.specs.ChildFaults.{child_fault}

-- the image, or the number of a line at fault
abbrev pub unless_fault : Option ℕ → Result Image ℕ → Result Image ℕ
unless_fault None read = read
unless_fault (Some number) read = Err number

-- the image with this text; else the first line at fault, or the first entry line whose child is
unfoldable pub image_read : List ℕ → Result Image ℕ
image_read text =
    unless_fault (line_fault text) (unless_fault (child_fault text) (Ok (nodes_at (pieces_of text))))

-- a text is read as an image exactly when it is the image's text, and the image is one
abbrev pub ImagesAreTexts : Type 0
ImagesAreTexts =
    (text : List ℕ) (image : Image)
    → (image_read text ≡ Ok image) ↔ (IsImage image × (text ≡ image_text image))
