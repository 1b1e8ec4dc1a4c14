-- The lengths of lines; entries in order are as long as entries.
use Rattle.std.proofs.Common.{◌≡◌, ℕ, ◌+◌, ◌*◌, true, false, cond, List, [], ◌∷◌, ◌++◌, map, length, refl, ap, ◌∙◌, arith, length-append}
use Rattle.std.specs.List.{flat_map}
use Rattle.std.specs.Ordering.{is_gt}
use Rattle.hex.specs.Hex.{encode_lower, lower_digits}
use Rattle.hex.proofs.HexLemmas.{length-encode_with}
use Rattle.std.specs.Prelude.{filter}
use Rattle.std.proofs.lemmas.List.Concat.{flat_map-cons}
use Rattle.disk_tree.specs.Entries.{Entries}
use Rattle.disk_tree.specs.declared.node.StoredNode.{StoredNode}
use Rattle.image_lines.specs.ImageText.{ended, entry_line, node_lines}
use Rattle.tree_image.specs.Images.{image_from, image_node}
use Rattle.tree_image.specs.Order.{entry_cmp, put_in_order, in_order}
use Rattle.text_words.proofs.PieceLemmas.{ended-append}

pub line_longer : (line : List ℕ) (lines : List (List ℕ)) → length (ended (line ∷ lines)) ≡ length line + 1 + length (ended lines)
line_longer line lines = omega (arith, length-append line (10 ∷ ended lines))

pub lines_longer : (first others : List (List ℕ)) → length (ended (first ++ others)) ≡ length (ended first) + length (ended others)
lines_longer first others = ap length (ended-append first others) ∙ length-append (ended first) (ended others)

abbrev size_of : Entries → ℕ
size_of es = length (ended (map entry_line es))

size-cons : (e : List ℕ × ℕ) (es : Entries) → size_of (e ∷ es) ≡ length (entry_line e) + 1 + size_of es
size-cons e es = line_longer (entry_line e) (map entry_line es)

size-put : (e : List ℕ × ℕ) (es : Entries) → size_of (put_in_order e es) ≡ length (entry_line e) + 1 + size_of es
size-put e [] = size-cons e []
size-put e (x ∷ xs) = elim (is_gt (entry_cmp e x)) as (λ b. size_of (cond b (x ∷ put_in_order e xs) (e ∷ x ∷ xs)) ≡ length (entry_line e) + 1 + size_of (x ∷ xs)) [
  | true ↦
      let a = size-cons x (put_in_order e xs) in
      let b = size-put e xs in
      let c = size-cons x xs in
      omega arith
  | false ↦ size-cons e (x ∷ xs)
]

pub in_order_as_long : (es : Entries) → size_of (in_order es) ≡ size_of es
in_order_as_long [] = refl
in_order_as_long (e ∷ es) =
    let a = size-put e (in_order es) in
    let b = in_order_as_long es in
    let c = size-cons e es in
    omega arith

-- ---- nodes

-- the lines of a node with a name come before those of the others
pub node_longer : (number : ℕ) (node : StoredNode) (left rest : List (ℕ × StoredNode)) → left ≡ (number, node) ∷ rest → node.named ≡ true
    → length (ended (flat_map node_lines (image_from left))) ≡ length (ended (node_lines (image_node (number, node)))) + length (ended (flat_map node_lines (image_from rest)))
node_longer number node left rest front named =
    ap (λ (es : List (ℕ × StoredNode)). length (ended (flat_map node_lines (image_from es)))) front
    ∙ (ap (λ b. length (ended (flat_map node_lines (map image_node (cond b ((number, node) ∷ filter (λ e. e.1.named) rest) (filter (λ e. e.1.named) rest)))))) named
    ∙ (ap (λ (ls : List (List ℕ)). length (ended ls)) (flat_map-cons node_lines (image_node (number, node)) (image_from rest))
    ∙ lines_longer (node_lines (image_node (number, node))) (flat_map node_lines (image_from rest))))

-- ---- digits

pub digits_are : (bytes : List ℕ) → length (encode_lower bytes) ≡ 2 * length bytes
digits_are bytes = length-encode_with lower_digits bytes
