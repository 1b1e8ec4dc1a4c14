use Rattle.std.proofs.Common.{◌≡◌, ℕ, Bool, true, List, Option, map, sym, ◌∙◌, inl, inr}
use Rattle.std.specs.Prelude.{filter, ◌↔◌}
use Rattle.std.proofs.lemmas.Bool.{cases_Bool}
use Rattle.image_lines.specs.Image.{Image, ImageNode}
use Rattle.tree_listing.specs.Listing.{IsListing, listed}
use Rattle.tree_listing.specs.PlacedEntries.{IsReached}
use Rattle.tree_listing.specs.ListingText.{listing_text}
use Rattle.tree_listing.proofs.laws.listings_are_one.Goals as goal

-- two tests of one question
same_test : (R : Type 0) (p q : Bool) → (p ≡ true) ↔ R → (q ≡ true) ↔ R → p ≡ q
same_test R p q of_p of_q = elim (cases_Bool p) [
  | inl yes_p ↦ yes_p ∙ sym (of_q.1 (of_p.0 yes_p))
  | inr no_p ↦ elim (cases_Bool q) [
    | inl yes_q ↦ absurd (cc (no_p, of_p.1 (of_q.0 yes_q)))
    | inr no_q ↦ no_p ∙ sym no_q
  ]
]

one_listing : (image : Image) (raw : Option (List ℕ)) (a b : List ℕ) → IsListing image raw a → IsListing image raw b → a ≡ b
one_listing image raw a b of_a of_b =
    let tests : (n : ℕ) → of_a.reached n ≡ of_b.reached n = λ n. same_test (IsReached image n) (of_a.reached n) (of_b.reached n) (of_a.exact n) (of_b.exact n) in
    of_a.lines ∙ (λ i. listing_text (map (listed raw image) (filter (λ (node : ImageNode). tests node.number i) image))) ∙ sym of_b.lines

pub returns : goal.returns
returns c = one_listing
