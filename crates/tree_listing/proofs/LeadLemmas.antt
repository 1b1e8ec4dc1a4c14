-- The children of the entries of an image: each has one entry, and is a node of the image.
use Rattle.std.proofs.Common.{◌≡◌, ◌≢◌, ℕ, ◌<◌, ◌==◌, List, [], ◌∷◌, ◌++◌, length, map, get_or, nat_eq, Option, Some, None, refl, sym, ap, ◌∙◌, subst, arith, inl, inr, zero, suc}
use Rattle.std.specs.Prelude.{Contains, slice_get}
use Rattle.std.specs.List.{IsDistinct}
use Rattle.std.specs.List.Sorted.{IsStrictlySortedBy}
use Rattle.std.specs.Ordering.{nat_cmp}
use Rattle.std.proofs.lemmas.Bool.{cases_lt, eqb-true}
use Rattle.std.proofs.lemmas.List.{map-append}
use Rattle.std.proofs.lemmas.List.Elements.{recursion_from_All}
use Rattle.std.proofs.lemmas.Map.Keys.{below_from_sorted}
use Rattle.std.proofs.lemmas.Option.{same_Some}
use Rattle.disk_tree.specs.Entries.{Entries}
use Rattle.disk_tree.specs.Nodes.{entries_of}
use Rattle.image_lines.specs.Image.{Image, ImageNode, numbers_of, all_entries, children_of}
use Rattle.image_lines.specs.Rules.{BeginsWithRoot, HasGoodChildren, IsImage}
use Rattle.tree_listing.specs.PlacedEntries.{PlacedEntry, placed_in, placed_entries, entry_to, IsReached}
use Rattle.tree_listing.proofs.Members.{In, in_flat, in_from_flat, in_map, in_from_map, in_from_contains, found_in, find_own, holds_in}

abbrev child_of : PlacedEntry → ℕ
child_of placed = placed.1.1

own_children : (node : ImageNode) (es : Entries) → map child_of (map (λ (e : List ℕ × ℕ). let p : PlacedEntry = (node, e) in p) es) ≡ map (λ e. e.1) es
own_children node [] = refl
own_children node (e ∷ es) = ap (λ (l : List ℕ). e.1 ∷ l) (own_children node es)

children_are : (image : Image) → map child_of (placed_entries image) ≡ children_of image
children_are [] = refl
children_are (node ∷ image) =
    map-append child_of (placed_in node) (placed_entries image)
    ∙ (λ i. own_children node (entries_of node.body) i ++ children_are image i)
    ∙ sym (map-append (λ (e : List ℕ × ℕ). e.1) (entries_of node.body) (all_entries image))

placed_is_in : (image : Image) (dir : ImageNode) (e : List ℕ × ℕ) → In dir image → In e (entries_of dir.body) → In (let p : PlacedEntry = (dir, e) in p) (placed_entries image)
placed_is_in image dir e h there = in_flat placed_in dir (dir, e) image h (in_map (λ (x : List ℕ × ℕ). let p : PlacedEntry = (dir, x) in p) e (entries_of dir.body) there)

placed_from : (image : Image) (p : PlacedEntry) → In p (placed_entries image) → In p.0 image × In p.1 (entries_of p.0.body)
placed_from image p h =
    let from = in_from_flat placed_in p image h in
    let own = in_from_map (λ (x : List ℕ × ℕ). let q : PlacedEntry = (from.0, x) in q) p (entries_of from.0.body) from.2 in
    subst (λ (q : PlacedEntry). In q.0 image × In q.1 (entries_of q.0.body)) own.2 (from.1, own.1)

-- the entry of the child of an entry is that entry
pub entry_to_own : (image : Image) → HasGoodChildren image → (dir : ImageNode) (e : List ℕ × ℕ) → In dir image → In e (entries_of dir.body) → entry_to image e.1 ≡ Some (dir, e)
entry_to_own image good dir e h there =
    find_own child_of (placed_entries image) (dir, e) (subst (IsDistinct nat_eq) (sym (children_are image)) good.once) (placed_is_in image dir e h there)

pub entry_to_from : (image : Image) (n : ℕ) (p : PlacedEntry) → entry_to image n ≡ Some p → In p.0 image × In p.1 (entries_of p.0.body) × (p.1.1 ≡ n)
entry_to_from image n p is =
    let found = found_in (λ (q : PlacedEntry). q.1.1 == n) (placed_entries image) p is in
    let parts = placed_from image p found.0 in
    (parts.0, parts.1, eqb-true p.1.1 n found.1)

pub child_there : (image : Image) → HasGoodChildren image → (dir : ImageNode) (e : List ℕ × ℕ) → In dir image → In e (entries_of dir.body) → (e.1 ≢ 0) × In e.1 (numbers_of image)
child_there image good dir e h there =
    let own = holds_in (λ c. (c ≢ 0) × Contains (numbers_of image) c) (children_of image) e.1
    (recursion_from_All (λ c. (c ≢ 0) × Contains (numbers_of image) c) (children_of image) good.there)
    (in_map (λ (x : List ℕ × ℕ). x.1) e (all_entries image) (in_flat (λ (node : ImageNode). entries_of node.body) dir e image h there)) in
    (own.0, in_from_contains (numbers_of image) e.1 own.1)

pub root_not_led : (image : Image) → HasGoodChildren image → entry_to image 0 ≡ None
root_not_led image good = by_case (entry_to image 0) refl
  where
    by_case : (o : Option PlacedEntry) → entry_to image 0 ≡ o → entry_to image 0 ≡ None
    by_case None e = e
    by_case (Some p) e =
        let from = entry_to_from image 0 p e in
        absurd ((child_there image good p.0 p.1 from.0 from.1).0 from.2)

-- what is reached is a node
pub reached_there : (image : Image) → IsImage image → {n : ℕ} → IsReached image n → In n (numbers_of image)
reached_there image is IsReached.root = root_in image is.lines.root
  where
    root_in : (image : Image) → BeginsWithRoot image → In 0 (numbers_of image)
    root_in [] root = absurd root
    root_in (node ∷ nodes) root = inl root.0
reached_there image is (IsReached.step n placed leads up) =
    let from = entry_to_from image n placed leads in
    subst (λ k. In k (numbers_of image)) from.2 (child_there image is.children placed.0 placed.1 from.0 from.1).1

-- ---- numbers distinguish nodes

pub number_at : (image : Image) (i : ℕ) (a : ImageNode) → slice_get image i ≡ Some a → (i < length (numbers_of image)) × (get_or (numbers_of image) i 0 ≡ a.number)
number_at [] i a is = absurd (cc is)
number_at (node ∷ image) zero a is = ((let e : 0 < length (numbers_of (node ∷ image)) = omega arith in e), ap (λ (n : ImageNode). n.number) (same_Some node a is))
number_at (node ∷ image) (suc i) a is =
    let later = number_at image i a is in
    ((let e : suc i < length (numbers_of (node ∷ image)) = omega (arith, later.0) in e), later.1)

pub same_index : (numbers : List ℕ) → IsStrictlySortedBy nat_cmp numbers → (i j : ℕ) → i < length numbers → j < length numbers → get_or numbers i 0 ≡ get_or numbers j 0 → i ≡ j
same_index numbers rises i j li lj same = elim (cases_lt i j) [
  | inl lt ↦ (let less = below_from_sorted numbers i j 0 rises lt lj in absurd (omega (arith, less, same)))
  | inr ge ↦ elim (cases_lt j i) [
    | inl lt ↦ (let less = below_from_sorted numbers j i 0 rises lt li in absurd (omega (arith, less, same)))
    | inr le ↦ omega arith
  ]
]

-- two nodes of one number are one
pub same_node : (image : Image) → IsStrictlySortedBy nat_cmp (numbers_of image) → (i j : ℕ) (a b : ImageNode) → slice_get image i ≡ Some a → slice_get image j ≡ Some b
    → a.number ≡ b.number → a ≡ b
same_node image rises i j a b ia jb same =
    let at_i = number_at image i a ia in
    let at_j = number_at image j b jb in
    let index = same_index (numbers_of image) rises i j at_i.0 at_j.0 (at_i.1 ∙ same ∙ sym at_j.1) in
    same_Some a b (sym ia ∙ ap (slice_get image) index ∙ jb)
