-- The image of a disk is that of the mount that the disk represents.
use Rattle.std.proofs.Common.{◌≡◌, ℕ, Bool, true, false, cond, List, [], ◌∷◌, map, refl, ap, ◌∙◌}
use Rattle.std.specs.Prelude.{filter}
use Rattle.number_map.specs.Numbered.{entries}
use Rattle.number_map.proofs.AgreementLemmas.{agree_entries_by}
use Rattle.plain_tree.specs.Nodes.{Node}
use Rattle.mount_model.specs.PlainMount.{Raws}
use Rattle.mount_state.specs.Stored.{stored_node}
use Rattle.tree_image.specs.Images.{image_node, image_from, stored_entry}
use Rattle.tree_image.specs.Agreement.{ImagesAgree}

named_ones : (raws : Raws) (es : List (ℕ × Node))
    → image_from (map (stored_entry raws) es) ≡ map (λ e. image_node (stored_entry raws e)) (filter (λ e. e.1.named) es)
named_ones raws [] = refl
named_ones raws (e ∷ es) = by_case (named_ones raws es) e.1.named
  where
    by_case : image_from (map (stored_entry raws) es) ≡ map (λ e. image_node (stored_entry raws e)) (filter (λ e. e.1.named) es)
        → (b : Bool) → map image_node (cond b (stored_entry raws e ∷ filter (λ x. x.1.named) (map (stored_entry raws) es)) (filter (λ x. x.1.named) (map (stored_entry raws) es)))
        ≡ map (λ x. image_node (stored_entry raws x)) (cond b (e ∷ filter (λ x. x.1.named) es) (filter (λ x. x.1.named) es))
    by_case rest true = ap (λ l. image_node (stored_entry raws e) ∷ l) rest
    by_case rest false = rest

pub images_agree : ImagesAgree
images_agree disk next m tree =
    ap image_from (agree_entries_by (stored_node m.raws) m.nodes disk tree.nodes) ∙ named_ones m.raws (entries m.nodes)
