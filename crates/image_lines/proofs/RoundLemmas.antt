-- Reading line by line, as the code goes: one line of a text, and the rest.
use Rattle.std.proofs.Common.{◌≡◌, ℕ, ◌<◌, ◌≤◌, ◌+◌, ◌-◌, ◌==◌, true, false, List, [], ◌∷◌, ◌++◌, length, map, drop, Option, Some, None, refl, sym, ap, ◌∙◌, arith, append_assoc, append-nil, length-append}
use Rattle.std.specs.Prelude.{if◌then◌else◌}
use Rattle.std.proofs.lemmas.Bool.{eqb-true}
use Rattle.std.proofs.lemmas.List.{nil_from_length, map-append, drop_at, drop-drop}
use Rattle.text_words.specs.Lines.{pieces_of}
use Rattle.image_lines.specs.declared.node_line.NodeLine.{NodeLine}
use Rattle.image_lines.specs.declared.place.Place.{Place}
use Rattle.image_lines.specs.declared.round_of_lines.NodePlace.{NodePlace}
use Rattle.image_lines.specs.Lines.{node_of_line}
use Rattle.image_lines.specs.WordForms.{nodes_at, node_at, with_node_at}
use Rattle.image_lines.specs.LineFaults.{may_end, or_fault, line_fault_from}
use Rattle.image_lines.specs.NextPlaces.{step}
use Rattle.image_lines.specs.Places.{node_of_place, place_of_line, places_from}
use Rattle.text_words.proofs.PieceLemmas.{first_piece}

-- ---- the line at fault

at_line : (k : ℕ) (place : Place) (text line rest : List ℕ) → pieces_of text ≡ line ∷ pieces_of rest
    → line_fault_from k place (pieces_of text) ≡ or_fault k (step place line) (λ p. line_fault_from (k + 1) p (pieces_of rest))
unfolding line_fault_from
at_line k place text line rest cut =
    let p = first_piece rest in
    rw (cut, p.1.1) refl

pub at_next : (k next : ℕ) (place after : Place) (text line rest : List ℕ) → pieces_of text ≡ line ∷ pieces_of rest → step place line ≡ Some after → next ≡ k + 1
    → line_fault_from k place (pieces_of text) ≡ line_fault_from next after (pieces_of rest)
at_next k next place after text line rest cut fits counted = at_line k place text line rest cut ∙ rw (fits, counted) refl

pub at_fault : (k : ℕ) (place : Place) (text line rest : List ℕ) → pieces_of text ≡ line ∷ pieces_of rest → step place line ≡ None
    → line_fault_from k place (pieces_of text) ≡ Some k
at_fault k place text line rest cut unfit = at_line k place text line rest cut ∙ rw unfit refl

-- a text in which no line ends
pub at_piece : (k : ℕ) (place : Place) (text piece : List ℕ) → pieces_of text ≡ piece ∷ [] → (length piece == 0) ≡ false
    → line_fault_from k place (pieces_of text) ≡ Some k
unfolding line_fault_from
at_piece k place text piece cut some = ap (line_fault_from k place) cut ∙ rw some refl

-- the end of a text
pub at_end : (k : ℕ) (place : Place) (text : List ℕ) → (length text == 0) ≡ true → line_fault_from k place (pieces_of text) ≡ (if may_end place then None else Some k)
unfolding line_fault_from
at_end k place text none = ap (λ l. line_fault_from k place (pieces_of l)) (nil_from_length text (eqb-true (length text) 0 none))

-- ---- the nodes

-- the node at the index of a node's line is the one that the line describes
here : (text line rest : List ℕ) (at : ℕ) (node : NodeLine) → node_of_line line ≡ Some node → pieces_of (drop at text) ≡ line ∷ pieces_of rest
    → node_of_place text (record { number = node.number; at = at }) ≡ node_at node (pieces_of rest)
here text line rest at node is cut = rw (cut, is) refl

pub one_more : (text line rest : List ℕ) (at : ℕ) (old new : List NodePlace) → new ≡ old ++ place_of_line (node_of_line line) at → pieces_of (drop at text) ≡ line ∷ pieces_of rest
    → map (node_of_place text) new ++ nodes_at (pieces_of rest) ≡ map (node_of_place text) old ++ nodes_at (pieces_of (drop at text))
unfolding nodes_at
one_more text line rest at old new pushed cut =
    ap (λ l. map (node_of_place text) l ++ nodes_at (pieces_of rest)) pushed
    ∙ of (node_of_line line) refl
    ∙ ap (λ ps. map (node_of_place text) old ++ nodes_at ps) (sym cut)
  where
    of : (o : Option NodeLine) → node_of_line line ≡ o
        → map (node_of_place text) (old ++ place_of_line (node_of_line line) at) ++ nodes_at (pieces_of rest) ≡ map (node_of_place text) old ++ with_node_at (node_of_line line) (pieces_of rest) (nodes_at (pieces_of rest))
    of None e = rw e (ap (λ l. map (node_of_place text) l ++ nodes_at (pieces_of rest)) (append-nil old))
    of (Some node) e =
        let own : NodePlace = record { number = node.number; at = at } in
        rw e (ap (λ l. l ++ nodes_at (pieces_of rest)) (map-append (node_of_place text) old (own ∷ []))
        ∙ append_assoc (map (node_of_place text) old) (node_of_place text own ∷ []) (nodes_at (pieces_of rest))
        ∙ ap (λ n. map (node_of_place text) old ++ n ∷ nodes_at (pieces_of rest)) (here text line rest at node e cut))

last : nodes_at ([] ∷ []) ≡ []
unfolding nodes_at node_of_line
last = refl

pub none_left : (text : List ℕ) → (length text == 0) ≡ true → nodes_at (pieces_of text) ≡ []
none_left text none = ap (λ l. nodes_at (pieces_of l)) (nil_from_length text (eqb-true (length text) 0 none)) ∙ last

-- ---- the places

pub placed_more : (line rest : List ℕ) (at rest_after : ℕ) (old new : List NodePlace) (pieces : List (List ℕ)) → new ≡ old ++ place_of_line (node_of_line line) at
    → pieces ≡ line ∷ pieces_of rest → rest_after ≡ at + length line + 1
    → new ++ places_from rest_after (pieces_of rest) ≡ old ++ places_from at pieces
unfolding places_from
placed_more line rest at rest_after old new pieces pushed cut on =
    (λ i. pushed i ++ places_from (on i) (pieces_of rest))
    ∙ append_assoc old (place_of_line (node_of_line line) at) (places_from (at + length line + 1) (pieces_of rest))
    ∙ ap (λ ps. old ++ places_from at ps) (sym cut)

no_place : (at : ℕ) → places_from at ([] ∷ []) ≡ []
unfolding places_from node_of_line
no_place at = refl

pub placed_none : (text : List ℕ) (at : ℕ) → (length text == 0) ≡ true → places_from at (pieces_of text) ≡ []
placed_none text at none = ap (λ l. places_from at (pieces_of l)) (nil_from_length text (eqb-true (length text) 0 none)) ∙ no_place at

-- ---- the rest of a text

pub shorter : (old bytes rest : List ℕ) → old ≡ bytes ++ 10 ∷ rest → length rest < length old
shorter old bytes rest whole =
    let long = ap length whole ∙ length-append bytes (10 ∷ rest) in
    omega (arith, long)

-- the next line begins after the line feed of this one
pub on_at : (long : ℕ) (old bytes rest : List ℕ) → old ≡ bytes ++ 10 ∷ rest → length old ≤ long → long - length rest ≡ (long - length old) + length bytes + 1
on_at long old bytes rest whole within =
    let cut = ap length whole ∙ length-append bytes (10 ∷ rest) in
    omega (arith, cut, within)

-- if the rest is the end of a text, so is what follows its first line
pub dropped : (text old bytes rest : List ℕ) → old ≡ drop (length text - length old) text → old ≡ bytes ++ 10 ∷ rest → length old ≤ length text
    → rest ≡ drop (length text - length rest) text
dropped text old bytes rest end whole within =
    let long = ap length whole ∙ length-append bytes (10 ∷ rest) in
    let count : length text - length rest ≡ (length text - length old) + (length bytes + 1) = omega (arith, long, within) in
    let own : drop (length bytes + 1) old ≡ rest = ap (drop (length bytes + 1)) (whole ∙ sym (append_assoc bytes (10 ∷ []) rest)) ∙ drop_at (bytes ++ 10 ∷ []) rest (length bytes + 1) (length-append bytes (10 ∷ [])) in
    sym own ∙ ap (drop (length bytes + 1)) end ∙ drop-drop (length bytes + 1) (length text - length old) text ∙ ap (λ n. drop n text) (sym count)
