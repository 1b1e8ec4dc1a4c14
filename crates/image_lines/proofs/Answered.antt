-- What reading returns: the places of nodes, and the image.
use Rattle.std.proofs.Common.{◌≡◌, ℕ, List, [], ◌∷◌, map, Some, None, Result, Ok, Err, refl, sym, ap, ◌∙◌, subst, ◌⊎◌, inr}
use Rattle.std.specs.List.Sorted.{IsStrictlySortedBy}
use Rattle.std.specs.Ordering.{nat_cmp}
use Rattle.text_words.specs.Lines.{pieces_of}
use Rattle.image_lines.specs.declared.fault.ImageFault.{ImageFault}
use Rattle.image_lines.specs.declared.fault.ImageFault.TheVariants.{BadLine, NoMemory}
use Rattle.image_lines.specs.declared.round_of_lines.NodePlace.{NodePlace}
use Rattle.image_lines.specs.declared.place.Place.TheVariants.{AtHeader}
use Rattle.image_lines.specs.Image.{Image, numbers_of}
use Rattle.image_lines.specs.ImageText.{image_text}
use Rattle.image_lines.specs.Rules.{IsImage}
use Rattle.image_lines.specs.Reading.{image_read}
use Rattle.image_lines.specs.ChildFaults.{child_fault, child_fault_from}
use Rattle.image_lines.specs.WordForms.{nodes_at}
use Rattle.image_lines.specs.LineFaults.{line_fault}
use Rattle.image_lines.specs.Places.{DoRise, node_of_place, numbers_at}
use Rattle.image_lines.specs.ReadFaults.{IsFault, IsReadFault}
use Rattle.image_lines.proofs.ReadingLaws.{told_from}
use Rattle.image_lines.proofs.ImageLaws.{images_are_texts}

pub same_numbers : (text : List ℕ) (places : List NodePlace) → numbers_of (map (node_of_place text) places) ≡ numbers_at places
same_numbers text [] = refl
same_numbers text (p ∷ places) = ap (λ l. p.number ∷ l) (same_numbers text places)

module _ (text : List ℕ) (places : List NodePlace) (faultless : line_fault text ≡ None) (nodes : map (node_of_place text) places ≡ nodes_at (pieces_of text)) where
  numbers : numbers_at places ≡ numbers_of (nodes_at (pieces_of text))
  numbers = sym (same_numbers text places) ∙ ap numbers_of nodes

  pub places_rise : DoRise places
  places_rise = subst (IsStrictlySortedBy nat_cmp) (sym numbers) (told_from 1 AtHeader (pieces_of text) faultless).1.rising

  -- the second round looks for the same numbers
  same_round : child_fault_from 1 (numbers_at places) [] (pieces_of text) ≡ child_fault text
  same_round = ap (λ ns. child_fault_from 1 ns [] (pieces_of text)) numbers

  pub read_whole : child_fault_from 1 (numbers_at places) [] (pieces_of text) ≡ None → image_read text ≡ Ok (map (node_of_place text) places)
  unfolding image_read
  read_whole none =
      let second : child_fault text ≡ None = sym same_round ∙ none in
      rw (faultless, second) (ap Ok (sym nodes))

  pub child_refused : (fault : ImageFault) → IsFault fault (child_fault_from 1 (numbers_at places) [] (pieces_of text)) → IsReadFault fault (image_read text)
  unfolding image_read
  child_refused NoMemory is = tt
  child_refused (BadLine line) is =
      let second : child_fault text ≡ Some line = sym same_round ∙ is in
      rw (faultless, second) refl

pub line_refused : (text : List ℕ) (fault : ImageFault) → IsFault fault (line_fault text) → IsReadFault fault (image_read text)
unfolding image_read
line_refused text NoMemory is = tt
line_refused text (BadLine line) is = rw is refl

pub found_image : (text : List ℕ) (image : Image) → image_read text ≡ Ok image → IsImage image × (text ≡ image_text image)
found_image text image h = (images_are_texts text image).0 h

same_image : (x y : Image) → (let r : Result Image ℕ = Ok x in r ≡ Ok y) → x ≡ y
same_image x y h = cc h

-- for the text of an image, exactly that image, unless there is no memory
pub every_found : (text : List ℕ) (read : Image) → image_read text ≡ Ok read → (image : Image) → IsImage image → text ≡ image_text image
    → (let r : Result Image ImageFault = Ok read in r ≡ Ok image)
every_found text read ok image is own = ap Ok (same_image read image (sym ok ∙ (images_are_texts text image).1 (is, own)))

pub every_fault : (text : List ℕ) (fault : ImageFault) → IsReadFault fault (image_read text) → (image : Image) → IsImage image → text ≡ image_text image
    → (let r : Result Image ImageFault = Err fault in (r ≡ Ok image) ⊎ (r ≡ Err NoMemory))
every_fault text NoMemory err image is own = inr refl
every_fault text (BadLine line) err image is own = absurd (cc (sym err ∙ (images_are_texts text image).1 (is, own)))

-- if the places are seen as a slice
pub whole_from : (text : List ℕ) (places slice : List NodePlace) → slice ≡ places → line_fault text ≡ None → map (node_of_place text) places ≡ nodes_at (pieces_of text)
    → child_fault_from 1 (numbers_at slice) [] (pieces_of text) ≡ None → image_read text ≡ Ok (map (node_of_place text) places)
whole_from text places slice same faultless nodes none =
    read_whole text places faultless nodes (ap (λ l. child_fault_from 1 (numbers_at l) [] (pieces_of text)) (sym same) ∙ none)

pub refused_from : (text : List ℕ) (places slice : List NodePlace) → slice ≡ places → line_fault text ≡ None → map (node_of_place text) places ≡ nodes_at (pieces_of text)
    → (fault : ImageFault) → IsFault fault (child_fault_from 1 (numbers_at slice) [] (pieces_of text)) → IsReadFault fault (image_read text)
refused_from text places slice same faultless nodes fault is =
    child_refused text places faultless nodes fault (subst (λ l. IsFault fault (child_fault_from 1 (numbers_at l) [] (pieces_of text))) same is)
