-- A listing, node by node, and that an image has one.
use Rattle.std.proofs.Common.{◌≡◌, ℕ, ◌<◌, ◌+◌, Bool, true, false, List, [], ◌∷◌, ◌++◌, length, map, take, get_or, Some, refl, sym, ap, ◌∙◌, subst, arith, append_assoc, append-nil, suc, zero}
use Rattle.std.specs.Prelude.{filter, slice_get, if◌then◌else◌}
use Rattle.std.proofs.lemmas.List.{map-append, get_or_default}
use Rattle.std.proofs.lemmas.Option.{same_Some}
use Rattle.image_lines.specs.Image.{Image, ImageNode}
use Rattle.image_lines.specs.ImageText.{ended}
use Rattle.tree_listing.specs.ListingText.{ListedNode, line_text, listing_text}
use Rattle.tree_listing.specs.declared.walk.Way.{Way}
use Rattle.tree_listing.specs.declared.walk.Way.TheVariants.{Nowhere, AtRoot, By}
use Rattle.tree_listing.specs.WayLines.{WritesAt, line_by}
use Rattle.tree_listing.specs.Ways.{AreWays, IsWayAt, IsWayTo, is_nowhere}

take_next : {A : Type 0} (xs : List A) (i : ℕ) (x : A) → slice_get xs i ≡ Some x → take (i + 1) xs ≡ take i xs ++ x ∷ []
take_next [] i x is = absurd (cc is)
take_next (y ∷ ys) zero x is = ap (λ z. z ∷ []) (same_Some y x is)
take_next (y ∷ ys) (suc i) x is =
    ap (λ n. take n (y ∷ ys)) (let e : suc i + 1 ≡ suc (i + 1) = omega arith in e) ∙ ap (λ l. y ∷ l) (take_next ys i x is)

filter_both : {A : Type 0} (p : A → Bool) (xs ys : List A) → filter p (xs ++ ys) ≡ filter p xs ++ filter p ys
filter_both p [] ys = refl
filter_both p (x ∷ xs) ys = by_test (p x) refl (filter_both p xs ys)
  where
    by_test : (b : Bool) → p x ≡ b → filter p (xs ++ ys) ≡ filter p xs ++ filter p ys → filter p ((x ∷ xs) ++ ys) ≡ filter p (x ∷ xs) ++ filter p ys
    by_test true e later = rw e (ap (λ l. x ∷ l) later)
    by_test false e later = rw e later

ended_both : (xs ys : List (List ℕ)) → ended (xs ++ ys) ≡ ended xs ++ ended ys
ended_both [] ys = refl
ended_both (x ∷ xs) ys = ap (λ (l : List ℕ). x ++ 10 ∷ l) (ended_both xs ys) ∙ sym (append_assoc x (10 ∷ ended xs) (ended ys))

listing_both : (xs ys : List ListedNode) → listing_text (xs ++ ys) ≡ listing_text xs ++ listing_text ys
listing_both xs ys = ap ended (map-append line_text xs ys) ∙ ended_both (map line_text xs) (map line_text ys)

-- the listing of the first nodes, of those that pass
abbrev pub listing_to : (ImageNode → ListedNode) → (ℕ → Bool) → Image → ℕ → List ℕ
listing_to show reached image index = listing_text (map show (filter (λ node. reached node.number) (take index image)))

one_more : (show : ImageNode → ListedNode) (reached : ℕ → Bool) (image : Image) (index : ℕ) (node : ImageNode) → slice_get image index ≡ Some node
    → listing_to show reached image (index + 1) ≡ listing_to show reached image index ++ listing_text (map show (filter (λ n. reached n.number) (node ∷ [])))
one_more show reached image index node at =
    let front = take index image in
    ap (λ l. listing_text (map show (filter (λ n. reached n.number) l))) (take_next image index node at)
    ∙ ap (λ l. listing_text (map show l)) (filter_both (λ n. reached n.number) front (node ∷ []))
    ∙ ap listing_text (map-append show (filter (λ n. reached n.number) front) (filter (λ n. reached n.number) (node ∷ [])))
    ∙ listing_both (map show (filter (λ n. reached n.number) front)) (map show (filter (λ n. reached n.number) (node ∷ [])))

pub one_listed : (show : ImageNode → ListedNode) (reached : ℕ → Bool) (image : Image) (index : ℕ) (node : ImageNode) → slice_get image index ≡ Some node
    → reached node.number ≡ true → listing_to show reached image (index + 1) ≡ listing_to show reached image index ++ (line_text (show node) ++ 10 ∷ [])
one_listed show reached image index node at found = one_more show reached image index node at ∙ rw found refl

pub one_left_out : (show : ImageNode → ListedNode) (reached : ℕ → Bool) (image : Image) (index : ℕ) (node : ImageNode) → slice_get image index ≡ Some node
    → reached node.number ≡ false → listing_to show reached image (index + 1) ≡ listing_to show reached image index
one_left_out show reached image index node at missing =
    one_more show reached image index node at ∙ rw missing (append-nil (listing_to show reached image index))

-- what was not found is left out, and what was is found by a way
pub nowhere : (image : Image) (found : Bool) (n : ℕ) (way : Way) → IsWayTo image found n way → is_nowhere way ≡ true → found ≡ false
nowhere image found n Nowhere is none = is
nowhere image found n AtRoot is none = absurd (cc none)
nowhere image found n (By parent at) is none = absurd (cc none)

pub somewhere : (image : Image) (found : Bool) (n : ℕ) (way : Way) → IsWayTo image found n way → is_nowhere way ≡ false → found ≡ true
somewhere image found n Nowhere is some = absurd (cc some)
somewhere image found n AtRoot is some = is.0
somewhere image found n (By parent at) is some = is.0

pub not_nowhere : (way : Way) → (way ≡ Nowhere → ⊥) → is_nowhere way ≡ false
not_nowhere Nowhere some = absurd (some refl)
not_nowhere AtRoot some = refl
not_nowhere (By parent at) some = refl

-- what was found by a way that isn't none
pub true_way : (image : Image) (index : ℕ) (node : ImageNode) (way : Way) → IsWayAt image index way → slice_get image index ≡ Some node → (way ≡ Nowhere → ⊥) → IsWayTo image true node.number way
true_way image index node way is at some =
    let own = is node at in
    subst (λ b. IsWayTo image b node.number way) (somewhere image own.0 node.number way own.1 (not_nowhere way some)) own.1

pub written : (image : Image) (show : ImageNode → ListedNode) (index : ℕ) (way : Way) (before after : List ℕ) (node : ImageNode) → slice_get image index ≡ Some node → (way ≡ Nowhere → ⊥)
    → after ≡ before ++ (line_text (show node) ++ 10 ∷ []) → WritesAt image show index way before after
written image show index way before after node at some is other there =
    let same : node ≡ other = same_Some node other (sym at ∙ there) in
    is ∙ ap (λ (n : ImageNode). before ++ (line_text (show n) ++ 10 ∷ [])) same
    ∙ ap (λ b. before ++ (if b then [] else line_text (show other) ++ 10 ∷ [])) (sym (not_nowhere way some))

some_node : (image : Image) (index : ℕ) → index < length image → (node : ImageNode) × (slice_get image index ≡ Some node)
some_node [] index lt = absurd (omega arith)
some_node (node ∷ image) zero lt = (node, refl)
some_node (node ∷ image) (suc index) lt = some_node image index (omega arith)

way_of : (image : Image) (reached : ℕ → Bool) (ways : List Way) (index : ℕ) (way : Way) (node : ImageNode) → AreWays image reached ways → index < length image → way ≡ get_or ways index way
    → slice_get image index ≡ Some node → IsWayTo image (reached node.number) node.number way
way_of image reached ways index way node are lt read at =
    let same : way ≡ get_or ways index Nowhere = read ∙ get_or_default ways index way Nowhere (omega (arith, are.long, lt)) in
    subst (IsWayTo image (reached node.number) node.number) (sym same) (are.each index node at)

pub way_at : (image : Image) (reached : ℕ → Bool) (ways : List Way) (index : ℕ) (way : Way) → AreWays image reached ways → index < length image → way ≡ get_or ways index way → IsWayAt image index way
way_at image reached ways index way are lt read node at = (reached node.number, way_of image reached ways index way node are lt read at)

-- one node further
pub goes_on : (show : ImageNode → ListedNode) (reached : ℕ → Bool) (image : Image) (ways : List Way) (index : ℕ) (way : Way) (before after : List ℕ) → AreWays image reached ways
    → index < length image → way ≡ get_or ways index way → before ≡ listing_to show reached image index → WritesAt image show index way before after
    → after ≡ listing_to show reached image (index + 1)
goes_on show reached image ways index way before after are lt read is writes =
    let node = some_node image index lt in
    let own = way_of image reached ways index way node.0 are lt read node.1 in
    by_test (is_nowhere way) refl node.0 node.1 own (writes node.0 node.1)
  where
    by_test : (b : Bool) → is_nowhere way ≡ b → (node : ImageNode) → slice_get image index ≡ Some node → IsWayTo image (reached node.number) node.number way
        → after ≡ before ++ line_by way (show node) → after ≡ listing_to show reached image (index + 1)
    by_test true e node at own wrote =
        wrote ∙ ap (λ b. before ++ (if b then [] else line_text (show node) ++ 10 ∷ [])) e ∙ append-nil before ∙ is
        ∙ sym (one_left_out show reached image index node at (nowhere image (reached node.number) node.number way own e))
    by_test false e node at own wrote =
        wrote ∙ ap (λ b. before ++ (if b then [] else line_text (show node) ++ 10 ∷ [])) e ∙ ap (λ (l : List ℕ). l ++ (line_text (show node) ++ 10 ∷ [])) is
        ∙ sym (one_listed show reached image index node at (somewhere image (reached node.number) node.number way own e))
