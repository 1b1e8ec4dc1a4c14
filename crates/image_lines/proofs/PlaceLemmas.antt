-- Where the nodes of an image are in its text, and what is after the line of each.
use Rattle.std.proofs.Common.{◌≡◌, ℕ, zero, suc, ◌<◌, ◌+◌, not, List, [], ◌∷◌, ◌++◌, length, map, drop, get_or, None, refl, sym, ap, ◌∙◌, arith, append_assoc, length-append, true}
use Rattle.std.specs.List.{AllByRecursion, after_first, flat_map, position_or_len}
use Rattle.std.proofs.lemmas.Bool.{and_parts}
use Rattle.std.proofs.lemmas.List.{drop_at, drop-drop}
use Rattle.std.proofs.lemmas.List.Elements.{recursion_from_All}
use Rattle.text_words.specs.Lines.{ended, is_line_feed, pieces_of}
use Rattle.text_words.proofs.PieceLemmas.{ended-append, is_free_of, pieces_of-ended}
use Rattle.disk_tree.specs.declared.node.Body.{Body}
use Rattle.disk_tree.specs.declared.node.Body.TheVariants as body
use Rattle.image_lines.specs.declared.round_of_lines.NodePlace.{NodePlace}
use Rattle.image_lines.specs.Image.{Image, ImageNode}
use Rattle.image_lines.specs.ImageText.{header, node_line, entry_line, block_line, line_of, body_lines, node_lines, image_text}
use Rattle.image_lines.specs.Rules.{IsImage}
use Rattle.image_lines.specs.NodeRules.{IsNode}
use Rattle.image_lines.specs.Lines.{node_of_line}
use Rattle.image_lines.specs.Nodes.{text_after}
use Rattle.image_lines.specs.Places.{place_of_line, places_from, places_in}
use Rattle.image_lines.proofs.AgainLaws.{are_lines}
use Rattle.image_lines.proofs.Bodies.{line_from_node}
use Rattle.image_lines.proofs.LineLaws.{node_told_again, node_line_is_free, entry_is_no_node, block_is_no_node}
use Rattle.image_lines.proofs.ReadingLaws.{lines_of}

-- ---- lines that are no node's

abbrev NoNodes : List (List ℕ) → Type 0
NoNodes lines = AllByRecursion (λ line. node_of_line line ≡ None) lines

none_of : {A : Type 0} (line : A → List ℕ) → ((x : A) → node_of_line (line x) ≡ None) → (xs : List A) → NoNodes (map line xs)
none_of line none [] = tt
none_of line none (x ∷ xs) = (none x, none_of line none xs)

no_node_in : (b : Body) → NoNodes (body_lines b)
no_node_in (body.Dir entries) = none_of entry_line entry_is_no_node entries
no_node_in (body.File blocks size) = none_of block_line block_is_no_node blocks
no_node_in (body.Link target) = tt

over : (at : ℕ) (lines more : List (List ℕ)) → NoNodes lines → places_from at (lines ++ more) ≡ places_from (at + length (ended lines)) more
unfolding places_from
over at [] more none = ap (λ n. places_from n more) (let e : at ≡ at + 0 = omega arith in e)
over at (line ∷ lines) more none =
    let long = length-append line (10 ∷ ended lines) in
    ap (λ o. place_of_line o at ++ places_from (at + length line + 1) (lines ++ more)) none.0
    ∙ over (at + length line + 1) lines more none.1
    ∙ ap (λ n. places_from n more) (let e : at + length line + 1 + length (ended lines) ≡ at + length (line ++ 10 ∷ ended lines) = omega (arith, long) in e)

-- ---- the places of nodes

abbrev place_of : ImageNode → ℕ → NodePlace
place_of node at = record { number = node.number; at = at }

first_place : (at : ℕ) (node : ImageNode) (image : Image) → IsNode node
    → places_from at (lines_of (node ∷ image)) ≡ place_of node at ∷ places_from (at + length (ended (node_lines node))) (lines_of image)
unfolding places_from
first_place at node image is =
    let own = node_line (line_of node) in
    let long = length-append own (10 ∷ ended (body_lines node.body)) in
    ap (λ o. place_of_line o at ++ places_from (at + length own + 1) ((body_lines node.body ++ flat_map node_lines image) ++ [] ∷ [])) (node_told_again (line_of node) (line_from_node node is))
    ∙ ap (λ (ls : List (List ℕ)). place_of node at ∷ places_from (at + length own + 1) ls) (append_assoc (body_lines node.body) (flat_map node_lines image) ([] ∷ []))
    ∙ ap (λ ps. place_of node at ∷ ps) (over (at + length own + 1) (body_lines node.body) (lines_of image) (no_node_in node.body))
    ∙ ap (λ n. place_of node at ∷ places_from n (lines_of image))
    (let e : at + length own + 1 + length (ended (body_lines node.body)) ≡ at + length (own ++ 10 ∷ ended (body_lines node.body)) = omega (arith, long) in e)

-- at the place of the node at an index the text goes on with the lines of that node and of those after it
pub lines_at : (text : List ℕ) (at : ℕ) (image : Image) → AllByRecursion IsNode image → drop at text ≡ ended (flat_map node_lines image)
    → (i : ℕ) (p : NodePlace) → i < length image → p ≡ get_or (places_from at (lines_of image)) i p
    → drop p.at text ≡ ended (flat_map node_lines (drop i image))
lines_at text at [] each here i p lt is = absurd (omega arith)
lines_at text at (node ∷ image) each here zero p lt is =
    let own : p ≡ place_of node at = is ∙ ap (λ ps. get_or ps 0 p) (first_place at node image each.0) in
    ap (λ (q : NodePlace). drop q.at text) own ∙ here
lines_at text at (node ∷ image) each here (suc i) p lt is =
    let long = length (ended (node_lines node)) in
    let parts : drop at text ≡ ended (node_lines node) ++ ended (flat_map node_lines image)
    = here ∙ ended-append (node_lines node) (flat_map node_lines image) in
    let rest_after : drop (at + long) text ≡ ended (flat_map node_lines image)
    = sym (drop-drop long at text) ∙ ap (drop long) parts ∙ drop_at (ended (node_lines node)) (ended (flat_map node_lines image)) long refl in
    lines_at text (at + long) image each.1 rest_after i p (omega arith) (is ∙ ap (λ ps. get_or ps (suc i) p) (first_place at node image each.0))

-- ---- what is after a node's own line

feed_at : (line rest : List ℕ) → is_free_of 10 line ≡ true → position_or_len is_line_feed (line ++ 10 ∷ rest) ≡ length line
feed_at [] rest free = refl
feed_at (b ∷ line) rest free =
    let parts = and_parts (not (is_line_feed b)) (is_free_of 10 line) free in
    rw (parts.0, feed_at line rest parts.1) (omega arith)

past_feed : (line rest : List ℕ) → is_free_of 10 line ≡ true → after_first is_line_feed (line ++ 10 ∷ rest) ≡ rest
past_feed line rest free =
    ap (λ n. drop (n + 1) (line ++ 10 ∷ rest)) (feed_at line rest free)
    ∙ ap (drop (length line + 1)) (sym (append_assoc line (10 ∷ []) rest))
    ∙ drop_at (line ++ 10 ∷ []) rest (length line + 1) (length-append line (10 ∷ []))

pub after_line : (image : Image) (i : ℕ) → AllByRecursion IsNode image → i < length image
    → after_first is_line_feed (ended (flat_map node_lines (drop i image))) ≡ text_after image i
after_line [] i each lt = absurd (omega arith)
after_line (node ∷ image) zero each lt =
    past_feed (node_line (line_of node)) (ended (body_lines node.body ++ flat_map node_lines image))
    (node_line_is_free (line_of node) (line_from_node node each.0))
after_line (node ∷ image) (suc i) each lt = after_line image i each.1 (omega arith)

-- ---- the whole text

module _ (text : List ℕ) (image : Image) (is : IsImage image) (own : text ≡ image_text image) where
  each : AllByRecursion IsNode image
  each = recursion_from_All IsNode image is.lines.each

  lines : text ≡ ended (header ∷ flat_map node_lines image)
  unfolding image_text
  lines = own

  pieces : pieces_of text ≡ header ∷ lines_of image
  pieces = ap pieces_of lines ∙ pieces_of-ended (header ∷ flat_map node_lines image) (refl, are_lines image each)

  behind_header : drop (length header + 1) text ≡ ended (flat_map node_lines image)
  behind_header =
      ap (drop (length header + 1)) lines ∙ drop_at (header ++ 10 ∷ []) (ended (flat_map node_lines image)) (length header + 1) refl

  over_header : places_from 0 (header ∷ lines_of image) ≡ places_from (length header + 1) (lines_of image)
  unfolding places_from node_of_line
  over_header = refl

  pub rest_at : (places : List NodePlace) (i : ℕ) (p : NodePlace) → places ≡ places_in text → i < length image → p ≡ get_or places i p
      → after_first is_line_feed (drop p.at text) ≡ text_after image i
  rest_at places i p placed lt there =
      let from : places ≡ places_from (length header + 1) (lines_of image) = placed ∙ ap (places_from 0) pieces ∙ over_header in
      ap (after_first is_line_feed)
      (lines_at text (length header + 1) image each behind_header i p lt (there ∙ ap (λ (ps : List NodePlace). get_or ps i p) from))
      ∙ after_line image i each lt
