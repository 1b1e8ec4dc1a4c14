-- What is at the places of the nodes of an image.
use Rattle.std.proofs.Common.{◌≡◌, ℕ, ◌<◌, ◌≤◌, ◌+◌, ◌-◌, Bool, true, false, List, [], ◌∷◌, ◌++◌, length, map, drop, get_or, Option, Some, None, Ok, refl, sym, ap, ◌∙◌, subst, arith, inl, inr}
use Rattle.std.specs.Prelude.{if◌then◌else◌, slice_get, IsTrue, ◌↔◌}
use Rattle.std.proofs.lemmas.Bool.{cases_lt}
use Rattle.std.proofs.lemmas.List.{get_or-map, length-map, length-drop, drop_all}
use Rattle.std.proofs.lemmas.List.Elements.{All-get_or}
use Rattle.std.proofs.lemmas.Option.{slice_get-get_or}
use Rattle.std.specs.List.{after_first, position_or_len}
use Rattle.text_words.specs.Lines.{is_line_feed, pieces_of}
use Rattle.image_lines.specs.declared.node_line.NodeKind.{NodeKind}
use Rattle.image_lines.specs.declared.node_line.NodeKind.TheVariants.{Dir, File, Link}
use Rattle.image_lines.specs.declared.node_line.NodeLine.{NodeLine}
use Rattle.image_lines.specs.declared.round_of_lines.NodePlace.{NodePlace}
use Rattle.image_lines.specs.Image.{Image, ImageNode}
use Rattle.image_lines.specs.ImageText.{image_text}
use Rattle.image_lines.specs.Rules.{IsImage}
use Rattle.image_lines.specs.NodeRules.{IsNode}
use Rattle.image_lines.specs.Lines.{node_of_line, entry_of_line, block_of_line}
use Rattle.image_lines.specs.Nodes.{IsRestOf}
use Rattle.image_lines.specs.Reading.{image_read}
use Rattle.image_lines.specs.WordForms.{node_at, entries_at, blocks_at}
use Rattle.image_lines.specs.Places.{node_of_place, no_node}
use Rattle.image_lines.proofs.ImageLaws.{images_are_texts}
use Rattle.image_lines.proofs.RoundLemmas.{dropped}

module _ (text : List ℕ) (places : List NodePlace) (read : image_read text ≡ Ok (map (node_of_place text) places)) where
  pub is_image : IsImage (map (node_of_place text) places)
  is_image = ((images_are_texts text (map (node_of_place text) places)).0 read).0

  pub text_is : text ≡ image_text (map (node_of_place text) places)
  text_is = ((images_are_texts text (map (node_of_place text) places)).0 read).1

  pub node_is : (i : ℕ) (p : NodePlace) → i < length places → p ≡ get_or places i p → IsNode (node_of_place text p)
  node_is i p lt is =
      let long : length (map (node_of_place text) places) ≡ length places = length-map _ _ in
      let own = All-get_or IsNode (map (node_of_place text) places) i (node_of_place text p) (omega (arith, long)) is_image.lines.each in
      subst IsNode (get_or-map (node_of_place text) places i p (node_of_place text p) lt ∙ ap (node_of_place text) (sym is)) own

-- a line that is no node's has no node
pub no_node_line : (text line : List ℕ) (more : List (List ℕ)) (p : NodePlace) → pieces_of (drop p.at text) ≡ line ∷ more → node_of_line line ≡ None
    → IsNode (node_of_place text p) → ⊥
no_node_line text line more p cut none is =
    let same : node_of_place text p ≡ record no_node { number = p.number } = rw (cut, none) refl in
    let bad : IsNode (record no_node { number = p.number }) = subst IsNode same is in
    absurd (cc bad.body.0)

pub begins : (text : List ℕ) (p : NodePlace) → IsNode (node_of_place text p) → p.at ≤ length text
unfolding node_of_line
begins text p is = elim (cases_lt (length text) p.at) [
  | inl past ↦
      let none : drop p.at text ≡ [] = drop_all p.at text (omega arith) in
      absurd (no_node_line text [] [] p (ap pieces_of none) refl is)
  | inr within ↦ within
]

-- nothing is read after the end of a text
nothing_behind : (node : NodeLine) → node_at node [] ≡ node_at node ([] ∷ [])
unfolding entries_at blocks_at entry_of_line block_of_line
nothing_behind node = of node.number node.context node.kind
  where
    of : (number : ℕ) (context : Option (List ℕ)) (kind : NodeKind)
        → (let a : NodeLine = record { number = number; context = context; kind = kind } in node_at a [] ≡ node_at a ([] ∷ []))
    of number context Dir = refl
    of number context (File size) = refl
    of number context (Link target) = refl

pub behind_is : (ended : Bool) (rest : List ℕ) (node : NodeLine) → (ended ≡ false → rest ≡ [])
    → node_at node (if ended then pieces_of rest else []) ≡ node_at node (pieces_of rest)
behind_is true rest node none = refl
behind_is false rest node none = nothing_behind node ∙ ap (λ l. node_at node (pieces_of l)) (sym (none refl))

-- the node at an index
pub node_found : (text : List ℕ) (places : List NodePlace) (i : ℕ) (p : NodePlace) (line : NodeLine) (bytes rest : List ℕ) (ended : Bool)
    → i < length places → p ≡ get_or places i p → pieces_of (drop p.at text) ≡ bytes ∷ (if ended then pieces_of rest else [])
    → (ended ≡ false → rest ≡ []) → node_of_line bytes ≡ Some line
    → slice_get (map (node_of_place text) places) i ≡ Some (node_at (record line { number = p.number }) (pieces_of rest))
node_found text places i p line bytes rest ended lt is cut none told =
    let long : length (map (node_of_place text) places) ≡ length places = length-map _ _ in
    let here : node_of_place text p ≡ record (node_at line (if ended then pieces_of rest else [])) { number = p.number } = rw (cut, told) refl in
    slice_get-get_or (map (node_of_place text) places) i (node_of_place text p) (omega (arith, long))
    ∙ ap Some (get_or-map (node_of_place text) places i p (node_of_place text p) lt ∙ ap (node_of_place text) (sym is) ∙ here
    ∙ ap (λ (n : ImageNode). let m : ImageNode = record n { number = p.number } in m) (behind_is ended rest line none))

-- what follows a line is the end of the text
pub rest_found : (text : List ℕ) (at : ℕ) (bytes rest : List ℕ) (ended : Bool) → at ≤ length text
    → drop at text ≡ bytes ++ (if ended then 10 ∷ rest else []) → (ended ≡ false → rest ≡ []) → IsRestOf text rest
rest_found text at bytes rest true within whole none =
    let long = length-drop at text in
    dropped text (drop at text) bytes rest (ap (λ n. drop n text) (let e : at ≡ length text - length (drop at text) = omega (arith, long) in e)) whole (omega (arith, long))
rest_found text at bytes rest false within whole none =
    let nothing : rest ≡ [] = none refl in
    nothing ∙ sym (drop_all (length text - 0) text (omega arith)) ∙ ap (λ (r : List ℕ). drop (length text - length r) text) (sym nothing)

-- an index of the nodes is one of their places
pub index_within : (text : List ℕ) (places : List NodePlace) (image : Image) (i : ℕ) → map (node_of_place text) places ≡ image → i < length image → i < length places
index_within text places image i is lt =
    let long : length (map (node_of_place text) places) ≡ length places = length-map _ _ in
    let same = ap length is in
    omega (arith, long, same, lt)

-- nothing follows a line that no line feed ends
pub end_of_record : (ended : Bool) (text rest : List ℕ) → IsTrue ended ↔ (position_or_len is_line_feed text < length text) → rest ≡ after_first is_line_feed text
    → ended ≡ false → rest ≡ []
end_of_record ended text rest ends is not_ended = elim (cases_lt (position_or_len is_line_feed text) (length text)) [
  | inl found ↦ absurd (cc (ends.1 found, not_ended))
  | inr past ↦ is ∙ drop_all (position_or_len is_line_feed text + 1) text (omega arith)
]
