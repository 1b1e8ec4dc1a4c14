-- The count of blocks of a disk that agrees with a map of other nodes.
use Rattle.std.proofs.Common.{◌≡◌, ℕ, List, [], ◌∷◌, map, length, refl, ap, ◌∙◌, ◌+◌, sym}
use Rattle.std.proofs.lemmas.List.Sums.{sum_by-cons}
use Rattle.std.specs.List.{sum_by}
use Rattle.number_map.specs.Numbered.{NumberedValues, AgreesUnder, entries}
use Rattle.number_map.proofs.AgreementLemmas.{agree_entries}
use Rattle.disk_tree.specs.Nodes.{blocks_of}
use Rattle.disk_tree.specs.DiskTree.{Disk, block_total}
use Rattle.disk_tree.specs.declared.node.StoredNode.{StoredNode}

sum_mapped : {A B : Type 0} (f : A → B) (g : B → ℕ) (h : A → ℕ) → ((a : A) → g (f a) ≡ h a) → (xs : List A) → sum_by g (map f xs) ≡ sum_by h xs
sum_mapped f g h same [] = refl
sum_mapped f g h same (x ∷ xs) =
    sum_by-cons g (f x) (map f xs) ∙ (λ i. same x i + sum_mapped f g h same xs i) ∙ sym (sum_by-cons h x xs)

pub totals_agree : {V : Type 0} (stored : V → StoredNode) (count : V → ℕ) (nodes : NumberedValues V) (disk : Disk) → AgreesUnder stored nodes disk →
    ((v : V) → length (blocks_of (stored v).body) ≡ count v) → block_total disk ≡ sum_by (λ e. count e.1) (entries nodes)
unfolding block_total
totals_agree {V} stored count nodes disk agree counts =
    let total : List (ℕ × StoredNode) → ℕ = sum_by (λ e. length (blocks_of e.1.body)) in
    ap total (agree_entries stored nodes disk agree)
    ∙ sum_mapped (λ (e : ℕ × V). (e.0, stored e.1)) (λ e. length (blocks_of e.1.body)) (λ e. count e.1) (λ e. counts e.1) (entries nodes)
