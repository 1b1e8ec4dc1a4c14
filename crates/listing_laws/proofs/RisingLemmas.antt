-- The entries of a directory in order: their names rise, if no two are the same.
use Rattle.std.proofs.Common.{◌≡◌, ◌≢◌, ℕ, true, false, List, [], ◌∷◌, bytes_eq, refl, sym, ap, ◌∙◌, subst, inl, inr}
use Rattle.std.specs.List.{IsDistinct}
use Rattle.std.specs.List.Sorted.{IsStrictlySortedBy}
use Rattle.std.specs.Map.{keys_of}
use Rattle.std.specs.Ordering.{nat_cmp, is_gt, is_eq, ordering_reverse, ordering_then}
use Rattle.std.specs.Cmp.Lexicographic.{slice_cmp}
use Rattle.std.specs.declared.cmp.Ordering.{Ordering}
use Rattle.std.specs.declared.cmp.Ordering.TheVariants.{Less, Equal, Greater}
use Rattle.std.proofs.lemmas.Cmp.{nat_list_cmp_total}
use Rattle.std.proofs.lemmas.Map.Text.{is_eq-slice_cmp}
use Rattle.plain_tree.specs.Nodes.{Name, Children}
use Rattle.plain_tree.specs.Stored.{stored_children}
use Rattle.plain_tree.proofs.ChildLemmas.{itself, other_name, same_name}
use Rattle.disk_tree.specs.Entries.{Entries}
use Rattle.tree_image.specs.Order.{entry_cmp, in_order, put_in_order}
use Rattle.tree_listing.proofs.Members.{In, all_from_in, holds_in, in_from_map, in_map}
use Rattle.listing_laws.proofs.MapLemmas.{in_from_ordered, there_from_put}

was_equal : (o : Ordering) → o ≡ Equal → is_eq o ≡ true
was_equal o is = ap is_eq is

put_rise : (e : List ℕ × ℕ) (es : Entries) → IsStrictlySortedBy (slice_cmp nat_cmp) (keys_of es) → ((x : List ℕ × ℕ) → In x es → e.0 ≢ x.0)
    → IsStrictlySortedBy (slice_cmp nat_cmp) (keys_of (put_in_order e es))
unfolding IsStrictlySortedBy
put_rise e [] rises other = (tt, tt)
put_rise e (y ∷ es) rises other = by_cmp (slice_cmp nat_cmp e.0 y.0) refl (put_rise e es rises.1 (λ x there. other x (inr there)))
  where
    by_cmp : (o : Ordering) → slice_cmp nat_cmp e.0 y.0 ≡ o → IsStrictlySortedBy (slice_cmp nat_cmp) (keys_of (put_in_order e es))
        → IsStrictlySortedBy (slice_cmp nat_cmp) (keys_of (put_in_order e (y ∷ es)))
    by_cmp Less is later =
        let t : is_gt (entry_cmp e y) ≡ false = ap (λ o. is_gt (ordering_then o (nat_cmp e.1 y.1))) is in
        rw t ((is, all_from_in (λ k. slice_cmp nat_cmp e.0 k ≡ Less) (keys_of es) (λ k there. nat_list_cmp_total.trans e.0 y.0 k is (holds_in (λ j. slice_cmp nat_cmp y.0 j ≡ Less) (keys_of es) k rises.0 there))), rises)
    by_cmp Equal is later = absurd (other y (inl refl) (same_name e.0 y.0 (sym (is_eq-slice_cmp e.0 y.0) ∙ ap is_eq is)))
    by_cmp Greater is later =
        let t : is_gt (entry_cmp e y) ≡ true = ap (λ o. is_gt (ordering_then o (nat_cmp e.1 y.1))) is in
        let before : slice_cmp nat_cmp y.0 e.0 ≡ Less = nat_list_cmp_total.antisymm y.0 e.0 ∙ ap ordering_reverse is in
        rw t (
          all_from_in (λ k. slice_cmp nat_cmp y.0 k ≡ Less) (keys_of (put_in_order e es)) (λ k there.
              let from = in_from_map (λ (x : List ℕ × ℕ). x.0) k (put_in_order e es) there in
              elim (there_from_put from.0 e es from.1) [
                | inl same ↦ subst (λ j. slice_cmp nat_cmp y.0 j ≡ Less) (ap (λ (x : List ℕ × ℕ). x.0) same ∙ from.2) before
                | inr behind ↦ subst (λ j. slice_cmp nat_cmp y.0 j ≡ Less) from.2 (holds_in (λ j. slice_cmp nat_cmp y.0 j ≡ Less) (keys_of es) from.0.0 rises.0 (in_map (λ (x : List ℕ × ℕ). x.0) from.0 es behind))
              ]),
          later,
        )

pub order_rises : (es : Entries) → IsDistinct bytes_eq (keys_of es) → IsStrictlySortedBy (slice_cmp nat_cmp) (keys_of (in_order es))
unfolding IsDistinct IsStrictlySortedBy
order_rises [] apart = tt
order_rises (e ∷ es) apart = put_rise e (in_order es) (order_rises es apart.1) (λ x there same.
    let own = in_from_ordered x es there in
    let differ = holds_in (λ k. bytes_eq e.0 k ≡ false) (keys_of es) x.0 apart.0 (in_map (λ (y : List ℕ × ℕ). y.0) x es own) in
    absurd (cc (differ, ap (bytes_eq e.0) (sym same), itself e.0)))

pub keys_apart : (store : Name → List ℕ) (cs : Children) → IsDistinct bytes_eq (keys_of cs) → ((a b : Name × ℕ) → In a cs → In b cs → store a.0 ≡ store b.0 → a.0 ≡ b.0)
    → IsDistinct bytes_eq (keys_of (stored_children store cs))
unfolding IsDistinct
keys_apart store [] apart one = tt
keys_apart store (c ∷ cs) apart one = (
  all_from_in (λ k. bytes_eq (store c.0) k ≡ false) (keys_of (stored_children store cs)) (λ k there. other_name (store c.0) k (λ same.
      let x = in_from_map (λ (y : List ℕ × ℕ). y.0) k (stored_children store cs) there in
      let b = in_from_map (λ (y : Name × ℕ). let z : List ℕ × ℕ = (store y.0, y.1) in z) x.0 cs x.1 in
      let names = one c b.0 (inl refl) (inr b.1) (same ∙ sym (ap (λ (y : List ℕ × ℕ). y.0) b.2 ∙ x.2)) in
      let differ = holds_in (λ n. bytes_eq c.0 n ≡ false) (keys_of cs) b.0.0 apart.0 (in_map (λ (y : Name × ℕ). y.0) b.0 cs b.1) in
      absurd (cc (differ, ap (bytes_eq c.0) (sym names), itself c.0)))),
  keys_apart store cs apart.1 (λ a b ta tb. one a b (inr ta) (inr tb)),
)
