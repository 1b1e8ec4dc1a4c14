-- Lines after lines, and that each loop writes one more.
use Rattle.std.proofs.Common.{◌≡◌, ℕ, true, cond, List, ◌∷◌, ◌++◌, map, sym, ap, ◌∙◌, append_assoc}
use Rattle.std.specs.List.{flat_map}
use Rattle.std.proofs.lemmas.List.Concat.{flat_map-cons}
use Rattle.std.specs.Prelude.{filter}
use Rattle.text_words.proofs.PieceLemmas.{ended-append}
use Rattle.disk_tree.specs.declared.node.StoredNode.{StoredNode}
use Rattle.image_lines.specs.ImageText.{ended, node_lines}
use Rattle.tree_image.specs.Images.{image_node, image_from}

-- ---- nodes

-- a node without name adds nothing, and the lines of one with a name come before those of the others
pub node-step : (before after whole : List ℕ) (number : ℕ) (node : StoredNode) (left rest : List (ℕ × StoredNode))
    → left ≡ (number, node) ∷ rest → node.named ≡ true → after ≡ before ++ ended (node_lines (image_node (number, node)))
    → before ++ ended (flat_map node_lines (image_from left)) ≡ whole → after ++ ended (flat_map node_lines (image_from rest)) ≡ whole
node-step before after whole number node left rest front named wrote so_far =
    ap (λ text. text ++ ended (flat_map node_lines (image_from rest))) wrote
    ∙ (append_assoc before (ended (node_lines (image_node (number, node)))) (ended (flat_map node_lines (image_from rest)))
    ∙ (ap (λ text. before ++ text) (sym (lines_of rest) ∙ sym (ap (λ (es : List (ℕ × StoredNode)). ended (flat_map node_lines (image_from es))) front)) ∙ so_far))
  where
    lines_of : (rest : List (ℕ × StoredNode)) → ended (flat_map node_lines (image_from ((number, node) ∷ rest)))
        ≡ ended (node_lines (image_node (number, node))) ++ ended (flat_map node_lines (image_from rest))
    lines_of rest =
        ap (λ b. ended (flat_map node_lines (map image_node (cond b ((number, node) ∷ filter (λ e. e.1.named) rest) (filter (λ e. e.1.named) rest))))) named
        ∙ (ap ended (flat_map-cons node_lines (image_node (number, node)) (image_from rest))
        ∙ ended-append (node_lines (image_node (number, node))) (flat_map node_lines (image_from rest)))
