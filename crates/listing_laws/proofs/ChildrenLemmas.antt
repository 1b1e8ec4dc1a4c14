-- In the image of a mount each entry resolves to a node of its own, other than the root.
use Rattle.std.proofs.Common.{◌≡◌, ◌≢◌, ℕ, Bool, true, false, List, [], ◌∷◌, ◌++◌, map, nat_eq, Option, Some, refl, sym, ap, ◌∙◌, subst, inl, inr}
use Rattle.std.specs.Prelude.{Contains, filter}
use Rattle.std.specs.List.{AllByRecursion, IsDistinct, flat_map}
use Rattle.std.specs.List.Sorted.{IsStrictlySortedBy}
use Rattle.std.specs.Ordering.{nat_cmp, is_lt}
use Rattle.std.specs.declared.cmp.Ordering.{Ordering}
use Rattle.std.specs.declared.cmp.Ordering.TheVariants.{Less, Equal, Greater}
use Rattle.std.specs.Map.{keys_of}
use Rattle.std.specs.Str.{bytes_eq}
use Rattle.std.specs.FinMap.{entries_sorted}
use Rattle.std.specs.FinMap.Entries.{is_sorted, below_all}
use Rattle.std.proofs.lemmas.Bool.{and_parts, ne_eqb}
use Rattle.std.proofs.lemmas.Cmp.{nat_cmp_total, tied_itself}
use Rattle.std.proofs.lemmas.List.{map-append}
use Rattle.std.proofs.lemmas.List.Elements.{All-from_recursion}
use Rattle.number_map.specs.Numbered.{entries, get}
use Rattle.plain_tree.specs.Nodes.{Name, Node, Body, Dir, File, Link, Children, children_of}
use Rattle.plain_tree.specs.NodesByNumber.{children_in, entry}
use Rattle.plain_tree.specs.Stored.{stored_children}
use Rattle.plain_tree.specs.Tree.{IsTree}
use Rattle.plain_tree.proofs.ChildLemmas.{itself}
use Rattle.policy_ctx.specs.declared.policy.Context.{Context}
use Rattle.disk_tree.specs.Entries.{Entries}
use Rattle.disk_tree.specs.Nodes.{entries_of}
use Rattle.mount_model.specs.PlainMount.{PlainMount, Raws}
use Rattle.mount_state.specs.Stored.{stored_body, stored_form}
use Rattle.image_lines.specs.Image.{Image, ImageNode, numbers_of, all_entries, children_of as image_children}
use Rattle.image_lines.specs.Rules.{HasGoodChildren}
use Rattle.tree_image.specs.Images.{image_node, mount_image, stored_entry}
use Rattle.tree_image.specs.Order.{in_order, body_in_order}
use Rattle.tree_listing.proofs.Members.{In, all_from_in, contains_from_in, holds_in, in_map, in_from_map, in_from_flat}
use Rattle.listing_laws.proofs.MapLemmas.{from_T, in_filter, in_from_filter, in_ordered, in_from_ordered, apart_joined, apart_ordered, get_from_entry, entry_from_get}
use Rattle.listing_laws.proofs.PlainLemmas.{child_entry, named_child}

-- ---- the entries of a node of an image

abbrev pub of_mount : Raws → ℕ × Node → ImageNode
of_mount raws e = image_node (stored_entry raws e)

abbrev pub stored_child : Raws → ℕ × Node → Name × ℕ → List ℕ × ℕ
stored_child raws e c = (stored_form raws e.0 e.1.context c.0, c.1)

body_entries : (raws : Raws) (n : ℕ) (context : Option Context) (b : Body) → entries_of (body_in_order (stored_body raws n context b)) ≡ in_order (stored_children (stored_form raws n context) (children_of b))
body_entries raws n context (Dir cs) = refl
body_entries raws n context (File contents) = refl
body_entries raws n context (Link target) = refl

pub entries_are : (raws : Raws) (e : ℕ × Node) → entries_of (of_mount raws e).body ≡ in_order (stored_children (stored_form raws e.0 e.1.context) (children_of e.1.body))
entries_are raws e = body_entries raws e.0 e.1.context e.1.body

pub child_in_image : (raws : Raws) (e : ℕ × Node) (c : Name × ℕ) → In c (children_of e.1.body) → In (stored_child raws e c) (entries_of (of_mount raws e).body)
child_in_image raws e c there =
    subst (In (stored_child raws e c)) (sym (entries_are raws e))
    (in_ordered (stored_child raws e c) (stored_children (stored_form raws e.0 e.1.context) (children_of e.1.body)) (in_map (stored_child raws e) c (children_of e.1.body) there))

pub child_from_image : (raws : Raws) (e : ℕ × Node) (x : List ℕ × ℕ) → In x (entries_of (of_mount raws e).body) → (c : Name × ℕ) × In c (children_of e.1.body) × (stored_child raws e c ≡ x)
child_from_image raws e x there =
    let own = in_from_ordered x (stored_children (stored_form raws e.0 e.1.context) (children_of e.1.body)) (subst (In x) (entries_are raws e) there) in
    in_from_map (stored_child raws e) x (children_of e.1.body) own

-- ---- the nodes of an image

pub node_from_image : (m : PlainMount) (node : ImageNode) → In node (mount_image m) → (e : ℕ × Node) × (get m.nodes e.0 ≡ Some e.1) × (e.1.named ≡ true) × (of_mount m.raws e ≡ node)
node_from_image m node there =
    let from = in_from_map (of_mount m.raws) node (filter (λ (e : ℕ × Node). e.1.named) (entries m.nodes)) there in
    let own = in_from_filter (λ (e : ℕ × Node). e.1.named) (entries m.nodes) from.0 from.1 in
    (from.0, get_from_entry m.nodes from.0.0 from.0.1 own.0, own.1, from.2)

pub node_in_image : (m : PlainMount) (n : ℕ) (v : Node) → get m.nodes n ≡ Some v → v.named ≡ true → In (of_mount m.raws (n, v)) (mount_image m)
node_in_image m n v got named =
    in_map (of_mount m.raws) (n, v) (filter (λ (e : ℕ × Node). e.1.named) (entries m.nodes))
    (in_filter (λ (e : ℕ × Node). e.1.named) (entries m.nodes) (n, v) (entry_from_get m.nodes n v got) named)

-- ---- numbers rise

was_less : (o : Ordering) → is_lt o ≡ true → o ≡ Less
was_less Less is = refl
was_less Equal is = absurd (cc is)
was_less Greater is = absurd (cc is)

below_in : {A : Type 0} (n : ℕ) (es : List (ℕ × A)) (e : ℕ × A) → below_all nat_cmp n es ≡ true → In e es → nat_cmp n e.0 ≡ Less
below_in n [] e below there = absurd there
below_in {A = A} n (x ∷ es) e below (inl is) =
    let parts = and_parts (is_lt (nat_cmp n x.0)) (below_all nat_cmp n es) below in
    ap (λ (y : ℕ × A). nat_cmp n y.0) (sym is) ∙ was_less (nat_cmp n x.0) parts.0
below_in n (x ∷ es) e below (inr h) = below_in n es e (and_parts (is_lt (nat_cmp n x.0)) (below_all nat_cmp n es) below).1 h

pub numbers_rise : (raws : Raws) (es : List (ℕ × Node)) → is_sorted nat_cmp es ≡ true
    → IsStrictlySortedBy nat_cmp (numbers_of (map (of_mount raws) (filter (λ e. e.1.named) es)))
unfolding IsStrictlySortedBy
numbers_rise raws [] sorted = tt
numbers_rise raws (e ∷ es) sorted =
    let parts = and_parts (below_all nat_cmp e.0 es) (is_sorted nat_cmp es) sorted in
    by_test e.1.named refl (behind parts.0) (numbers_rise raws es parts.1)
  where
    behind : below_all nat_cmp e.0 es ≡ true → AllByRecursion (λ y. nat_cmp e.0 y ≡ Less) (numbers_of (map (of_mount raws) (filter (λ x. x.1.named) es)))
    behind below = all_from_in (λ y. nat_cmp e.0 y ≡ Less) (numbers_of (map (of_mount raws) (filter (λ x. x.1.named) es))) (λ y there.
        let node = in_from_map (λ (x : ImageNode). x.number) y (map (of_mount raws) (filter (λ x. x.1.named) es)) there in
        let from = in_from_map (of_mount raws) node.0 (filter (λ (x : ℕ × Node). x.1.named) es) node.1 in
        let own = in_from_filter (λ (x : ℕ × Node). x.1.named) es from.0 from.1 in
        subst (λ k. nat_cmp e.0 k ≡ Less) (ap (λ (x : ImageNode). x.number) from.2 ∙ node.2) (below_in e.0 es from.0 below own.0))

    by_test : (b : Bool) → e.1.named ≡ b → AllByRecursion (λ y. nat_cmp e.0 y ≡ Less) (numbers_of (map (of_mount raws) (filter (λ x. x.1.named) es)))
        → IsStrictlySortedBy nat_cmp (numbers_of (map (of_mount raws) (filter (λ x. x.1.named) es)))
        → IsStrictlySortedBy nat_cmp (numbers_of (map (of_mount raws) (filter (λ x. x.1.named) (e ∷ es))))
    by_test true t all later = rw t (all, later)
    by_test false t all later = rw t later

pub image_rises : (m : PlainMount) → IsStrictlySortedBy nat_cmp (numbers_of (mount_image m))
image_rises m = numbers_rise m.raws (entries m.nodes) (from_T (is_sorted nat_cmp (entries m.nodes)) (entries_sorted m.nodes))

apart_from_sorted : (ns : List ℕ) → IsStrictlySortedBy nat_cmp ns → IsDistinct nat_eq ns
unfolding IsStrictlySortedBy IsDistinct
apart_from_sorted [] sorted = tt
apart_from_sorted (n ∷ ns) sorted = (
  all_from_in (λ k. nat_eq n k ≡ false) ns (λ k there. ne_eqb n k (λ same.
      let less = holds_in (λ y. nat_cmp n y ≡ Less) ns k sorted.0 there in
      absurd (cc (ap is_lt (ap (nat_cmp n) same ∙ less), ap is_lt (tied_itself nat_cmp_total n))))),
  apart_from_sorted ns sorted.1,
)

-- ---- the children of a directory are apart

stored_numbers : (store : Name → List ℕ) (cs : Children) → map (λ e. e.1) (stored_children store cs) ≡ map (λ c. c.1) cs
stored_numbers store [] = refl
stored_numbers store (c ∷ cs) = ap (λ (l : List ℕ). c.1 ∷ l) (stored_numbers store cs)

module _ (m : PlainMount) (tree : IsTree m.nodes m.next) where
  children_apart : (d : ℕ) (cs : Children) → IsDistinct bytes_eq (keys_of cs) → ((c : Name × ℕ) → In c cs → entry m.nodes d c.0 ≡ Some c.1) → IsDistinct nat_eq (map (λ c. c.1) cs)
  unfolding IsDistinct
  children_apart d [] apart each = tt
  children_apart d (c ∷ cs) apart each = (
    all_from_in (λ k. nat_eq c.1 k ≡ false) (map (λ (x : Name × ℕ). x.1) cs) (λ k there. ne_eqb c.1 k (λ same.
        let other = in_from_map (λ (x : Name × ℕ). x.1) k cs there in
        let once = tree.names.once d d c.0 other.0.0 c.1 (each c (inl refl)) (each other.0 (inr other.1) ∙ ap Some (other.2 ∙ sym same)) in
        let differ = holds_in (λ n. bytes_eq c.0 n ≡ false) (keys_of cs) other.0.0 apart.0 (in_map (λ (x : Name × ℕ). x.0) other.0 cs other.1) in
        absurd (cc (differ, ap (bytes_eq c.0) (sym once.1), itself c.0)))),
    children_apart d cs apart.1 (λ x there. each x (inr there)),
  )

-- the numbers that the entries of a node resolve to
abbrev pub led_by : ImageNode → List ℕ
led_by node = map (λ e. e.1) (entries_of node.body)

joined_children : (image : Image) → image_children image ≡ flat_map led_by image
joined_children [] = refl
joined_children (node ∷ image) =
    map-append (λ (e : List ℕ × ℕ). e.1) (entries_of node.body) (all_entries image) ∙ ap (λ (l : List ℕ). led_by node ++ l) (joined_children image)

module _ (m : PlainMount) (tree : IsTree m.nodes m.next) where
  -- an entry for a number in the image is an entry for it in the mount
  pub led_in_mount : (node : ImageNode) (k : ℕ) → In node (mount_image m) → In k (led_by node)
      → (name : Name) × (entry m.nodes node.number name ≡ Some k)
  led_in_mount node k there led =
      let from = node_from_image m node there in
      let e = in_from_map (λ (x : List ℕ × ℕ). x.1) k (entries_of node.body) led in
      let own = child_from_image m.raws from.0 e.0 (subst (λ (n : ImageNode). In e.0 (entries_of n.body)) (sym from.3) e.1) in
      let found = child_entry m.nodes m.next tree from.0.0 from.0.1 own.0 from.1 own.1 in
      (own.0.0, ap (λ n. entry m.nodes n own.0.0) (sym (ap (λ (n : ImageNode). n.number) from.3)) ∙ found ∙ ap Some (ap (λ (x : List ℕ × ℕ). x.1) own.2 ∙ e.2))

  led_apart : (node : ImageNode) → In node (mount_image m) → IsDistinct nat_eq (led_by node)
  led_apart node there =
      let from = node_from_image m node there in
      let e = from.0 in
      let cs = children_of e.1.body in
      let keys = subst (λ l. IsDistinct bytes_eq (keys_of l)) (ap children_in from.1) (tree.names.distinct e.0) in
      let plain = children_apart m tree e.0 cs keys (λ c own. child_entry m.nodes m.next tree e.0 e.1 c from.1 own) in
      let stored = stored_children (stored_form m.raws e.0 e.1.context) cs in
      let lifted = apart_ordered stored (subst (IsDistinct nat_eq) (sym (stored_numbers (stored_form m.raws e.0 e.1.context) cs)) plain) in
      subst (λ (n : ImageNode). IsDistinct nat_eq (led_by n)) from.3
      (subst (λ (es : Entries). IsDistinct nat_eq (map (λ x. x.1) es)) (sym (entries_are m.raws e)) lifted)

  pub good_children : HasGoodChildren (mount_image m)
  good_children = record {
    there = All-from_recursion (λ child. (child ≢ 0) × Contains (numbers_of (mount_image m)) child) (image_children (mount_image m))
        (all_from_in (λ child. (child ≢ 0) × Contains (numbers_of (mount_image m)) child) (image_children (mount_image m)) (λ k led.
        let from = in_from_flat led_by k (mount_image m) (subst (In k) (joined_children (mount_image m)) led) in
        let own = led_in_mount from.0 k from.1 from.2 in
        let child = named_child m.nodes m.next tree from.0.number own.0 k own.1 in (
          child.0,
          contains_from_in (numbers_of (mount_image m)) k
              (in_map (λ (n : ImageNode). n.number) (of_mount m.raws (k, child.1.0)) (mount_image m) (node_in_image m k child.1.0 child.1.1 child.1.2)),
        )));
    once = subst (IsDistinct nat_eq) (sym (joined_children (mount_image m)))
        (apart_joined (λ (n : ImageNode). n.number) led_by (mount_image m) (apart_from_sorted (numbers_of (mount_image m)) (image_rises m)) led_apart
        (λ x y k tx ty kx ky.
        let a = led_in_mount x k tx kx in
        let b = led_in_mount y k ty ky in
        (tree.names.once x.number y.number a.0 b.0 k a.1 b.1).0));
  }
