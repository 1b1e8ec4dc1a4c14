-- A text is read as an image exactly when it is the text of that image, and the image is one.
use Rattle.std.proofs.Common.{◌≡◌, ℕ, List, [], ◌∷◌, Option, Some, None, Result, Ok, refl, sym, ap, ◌∙◌, subst}
use Rattle.std.specs.List.{flat_map}
use Rattle.std.proofs.lemmas.List.Elements.{recursion_from_All}
use Rattle.text_words.specs.Lines.{pieces_of}
use Rattle.image_lines.specs.Image.{Image, numbers_of}
use Rattle.image_lines.specs.ImageText.{header, node_lines, image_text}
use Rattle.image_lines.specs.Rules.{IsImage, HasGoodLines}
use Rattle.image_lines.specs.NodeRules.{IsNode}
use Rattle.image_lines.specs.declared.place.Place.TheVariants.{AtHeader}
use Rattle.image_lines.specs.Reading.{ImagesAreTexts, image_read, unless_fault}
use Rattle.image_lines.specs.ChildFaults.{child_fault, child_fault_from}
use Rattle.image_lines.specs.WordForms.{nodes_at}
use Rattle.image_lines.specs.LineFaults.{line_fault, line_fault_from}
use Rattle.text_words.proofs.PieceLemmas.{AreLines, pieces_of-ended, ended-from_pieces}
use Rattle.image_lines.proofs.ReadingLaws.{lines_of, told_from}
use Rattle.image_lines.proofs.AgainLaws.{image_again, nodes_told, are_lines}
use Rattle.image_lines.specs.Lines.{node_of_line}
use Rattle.image_lines.proofs.ChildLaws.{children_found, children_again}

no_fault : (o : Option ℕ) (read : Result Image ℕ) (image : Image) → unless_fault o read ≡ Ok image → (o ≡ None) × (read ≡ Ok image)
no_fault None read image h = (refl, h)
no_fault (Some k) read image h = absurd (cc h)

same_image : (x y : Image) → (let r : Result Image ℕ = Ok x in r ≡ Ok y) → x ≡ y
same_image x y h = cc h

found : (text : List ℕ) (image : Image) → image_read text ≡ Ok image → IsImage image × (text ≡ image_text image)
unfolding image_read image_text
found text image h =
    let first = no_fault (line_fault text) (unless_fault (child_fault text) (Ok (nodes_at (pieces_of text)))) image h in
    let second = no_fault (child_fault text) (Ok (nodes_at (pieces_of text))) image first.1 in
    let same : nodes_at (pieces_of text) ≡ image = same_image (nodes_at (pieces_of text)) image second.1 in
    let told = told_from 1 AtHeader (pieces_of text) first.0 in
    let pieces : pieces_of text ≡ header ∷ lines_of image = told.0 ∙ ap (λ i. header ∷ lines_of i) same in
    let lines : HasGoodLines image = subst HasGoodLines same told.1 in
    let children : child_fault_from 1 (numbers_of image) [] (header ∷ lines_of image) ≡ None =
    (λ i. child_fault_from 1 (numbers_of (sym same i)) [] (sym pieces i)) ∙ second.0 in (
      record { lines = lines; children = children_found image (recursion_from_All IsNode image lines.each) children },
      ended-from_pieces text (header ∷ flat_map node_lines image) pieces,
    )

over_header : (ps : List (List ℕ)) → nodes_at (header ∷ ps) ≡ nodes_at ps
unfolding nodes_at node_of_line
over_header ps = refl

again : (text : List ℕ) (image : Image) → IsImage image × (text ≡ image_text image) → image_read text ≡ Ok image
unfolding image_read image_text
again text image h =
    let each = recursion_from_All IsNode image h.0.lines.each in
    let lines : AreLines (header ∷ flat_map node_lines image) = (refl, are_lines image each) in
    let pieces : pieces_of text ≡ header ∷ lines_of image = ap pieces_of h.1 ∙ pieces_of-ended (header ∷ flat_map node_lines image) lines in
    let nodes : nodes_at (pieces_of text) ≡ image = ap nodes_at pieces ∙ over_header (lines_of image) ∙ nodes_told image each in
    let first : line_fault text ≡ None = ap (line_fault_from 1 AtHeader) pieces ∙ image_again image h.0.lines in
    let second : child_fault text ≡ None = (λ i. child_fault_from 1 (numbers_of (nodes i)) [] (pieces i)) ∙ children_again image each h.0.children in
    rw (first, second, nodes) refl

pub images_are_texts : ImagesAreTexts
images_are_texts text image = (found text image, again text image)
