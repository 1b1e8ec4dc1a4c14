-- The listing of a mount's image is that of what the mount shows.
use Rattle.std.proofs.Common.{◌≡◌, ℕ, ◌==◌, Bool, true, false, List, [], ◌∷◌, length, map, option_map, Option, Some, None, refl, sym, ap, ◌∙◌, subst, inl, inr}
use Rattle.std.specs.Prelude.{filter}
use Rattle.std.specs.List.{find}
use Rattle.std.proofs.lemmas.Bool.{eqb-true, eq-eqb}
use Rattle.std.proofs.lemmas.List.{length-map}
use Rattle.std.proofs.lemmas.Option.{same_Some}
use Rattle.policy_ctx.specs.declared.policy.Context.{Context}
use Rattle.policy_ctx.specs.Context.{context_bytes}
use Rattle.hmac_kdf.specs.Hmac.{hash_sha512}
use Rattle.hmac_kdf.specs.DerivedBytes.{DerivesBytes}
use Rattle.fsc_keys.specs.Keys.{key_id_of}
use Rattle.name_crypt.specs.Laws.{NamesComeBack}
use Rattle.name_crypt.specs.Plain.{IsPlain}
use Rattle.data_crypt.specs.Laws.{ContentsComeBack}
use Rattle.number_map.specs.Numbered.{entries, get}
use Rattle.plain_tree.specs.Nodes.{Name, Node, Body, Dir, File, Link, children_of}
use Rattle.plain_tree.specs.NodesByNumber.{is_named, is_named_in}
use Rattle.plain_tree.specs.Stored.{stored_children}
use Rattle.plain_tree.specs.Tree.{IsReached as IsNamedFrom, IsTree}
use Rattle.mount_model.specs.PlainMount.{PlainMount, Raws}
use Rattle.mount_model.specs.WellFormed.{IsWellFormed}
use Rattle.mount_model.specs.SoundNodes.{HasRaw, IsBody, IsName}
use Rattle.mount_state.specs.Stored.{stored_body, stored_form}
use Rattle.image_lines.specs.Image.{ImageNode}
use Rattle.tree_image.specs.Images.{mount_image}
use Rattle.tree_image.specs.Order.{body_in_order}
use Rattle.disk_tree.specs.Nodes.{entries_of}
use Rattle.tree_listing.specs.Listing.{IsListing, visible_body, listed, visible_place}
use Rattle.tree_listing.specs.PlacedEntries.{IsReached, PlacedEntry, entry_to}
use Rattle.tree_listing.specs.ListingText.{ListedNode, listing_text}
use Rattle.tree_listing.specs.ListingText as text
use Rattle.tree_listing.proofs.Members.{In, found_in, in_flat, in_from_flat, in_from_map, in_map}
use Rattle.tree_listing.proofs.LeadLemmas.{entry_to_from, entry_to_own}
use Rattle.listing_laws.specs.Laws.{IsOnlyKey}
use Rattle.listing_laws.specs.Expected.{expected_body, expected_listing, expected_place, shown}
use Rattle.listing_laws.specs.PlacedNames.{PlacedName, name_to, names_in, placed_names}
use Rattle.listing_laws.proofs.MapLemmas.{ordered_long, entry_from_get, get_from_entry, in_from_filter}
use Rattle.listing_laws.proofs.PlainLemmas.{child_entry, entry_dir}
use Rattle.listing_laws.proofs.SightLemmas.{IsGoodOrNone, digests_agree, words_agree}
use Rattle.listing_laws.proofs.ChildrenLemmas.{child_from_image, child_in_image, good_children, led_in_mount, node_from_image, node_in_image, of_mount, stored_child}

-- ---- lists

found_some : {A : Type 0} (p : A → Bool) (xs : List A) (x : A) → In x xs → p x ≡ true → find p xs ≡ None → ⊥
found_some p [] x there passes none = absurd there
found_some p (y ∷ ys) x (inl is) passes none =
    let t : p y ≡ true = ap p is ∙ passes in
    absurd (cc (rw t at none))
found_some p (y ∷ ys) x (inr h) passes none = by_test (p y) refl (λ later. found_some p ys x h passes later)
  where
    by_test : (b : Bool) → p y ≡ b → (find p ys ≡ None → ⊥) → ⊥
    by_test true t later = absurd (cc (rw t at none))
    by_test false t later = later (rw t at none)

filter_all : {A : Type 0} (p : A → Bool) (xs : List A) → ((x : A) → In x xs → p x ≡ true) → filter p xs ≡ xs
filter_all p [] each = refl
filter_all p (x ∷ xs) each =
    let t = each x (inl refl) in
    rw t (ap (λ l. x ∷ l) (filter_all p xs (λ y there. each y (inr there))))

map_agree : {A B D : Type 0} (f : B → D) (g : A → B) (h : A → D) (xs : List A) → ((x : A) → In x xs → f (g x) ≡ h x) → map f (map g xs) ≡ map h xs
map_agree f g h [] each = refl
map_agree f g h (x ∷ xs) each = λ i. each x (inl refl) i ∷ map_agree f g h xs (λ y there. each y (inr there)) i

-- ---- what holds in a well-formed mount

plain_name : (name : Name) → IsName name → IsPlain name
plain_name name is = (is.0.size.0, is.1, is.0.nul)

good_from : (raws : Raws) (context : Option Context) → HasRaw raws context → IsGoodOrNone raws context
good_from raws None has = tt
good_from raws (Some c) has = record { id = has.0; added = has.1 }

module _ (m : PlainMount) (well : IsWellFormed m) where
  tree : IsTree m.nodes m.next
  tree = well.nodes.tree

  -- the entry of the image that resolves as a name does
  entry_is : (d : ℕ) (v : Node) (c : Name × ℕ) → get m.nodes d ≡ Some v → v.named ≡ true → In c (children_of v.body)
      → entry_to (mount_image m) c.1 ≡ Some (of_mount m.raws (d, v), stored_child m.raws (d, v) c)
  entry_is d v c got named there =
      entry_to_own (mount_image m) (good_children m well.nodes.tree) (of_mount m.raws (d, v)) (stored_child m.raws (d, v) c)
      (node_in_image m d v got named) (child_in_image m.raws (d, v) c there)

  -- what names reach, entries reach
  reached_image : {n : ℕ} → IsNamedFrom m.nodes n → IsReached (mount_image m) n
  reached_image IsNamedFrom.root = IsReached.root
  reached_image (IsNamedFrom.step d name x found there) =
      let dir = entry_dir m.nodes m.next well.nodes.tree d name x found in
      IsReached.step x (of_mount m.raws (d, dir.0), stored_child m.raws (d, dir.0) (name, x)) (entry_is d dir.0 (name, x) dir.1 dir.2 dir.3) (reached_image there)

  -- and what entries reach has a name
  reached_named : {n : ℕ} → IsReached (mount_image m) n → is_named m.nodes n ≡ true
  reached_named IsReached.root = well.nodes.tree.root.named
  reached_named (IsReached.step n placed leads up) =
      let from = entry_to_from (mount_image m) n placed leads in
      let own = led_in_mount m well.nodes.tree placed.0 placed.1.1 from.0 (in_map (λ (x : List ℕ × ℕ). x.1) placed.1 _ from.1) in
      subst (λ k. is_named m.nodes k ≡ true) from.2 (well.nodes.tree.names.leads placed.0.number own.0 placed.1.1 own.1).1

  -- ---- names

  abbrev image_name : PlacedName → PlacedEntry
  image_name placed = (of_mount m.raws placed.0, stored_child m.raws placed.0 placed.1)

  placed_from : (p : PlacedName) → In p (placed_names m.nodes) → (get m.nodes p.0.0 ≡ Some p.0.1) × In p.1 (children_of p.0.1.body)
  placed_from p there =
      let from = in_from_flat names_in p (entries m.nodes) there in
      let own = in_from_map (λ (c : Name × ℕ). let q : PlacedName = (from.0, c) in q) p (children_of from.0.1.body) from.2 in
      subst (λ (q : PlacedName). (get m.nodes q.0.0 ≡ Some q.0.1) × In q.1 (children_of q.0.1.body)) own.2 (get_from_entry m.nodes from.0.0 from.0.1 from.1, own.1)

  placed_there : (e : ℕ × Node) (c : Name × ℕ) → get m.nodes e.0 ≡ Some e.1 → In c (children_of e.1.body) → In (let p : PlacedName = (e, c) in p) (placed_names m.nodes)
  placed_there e c got there =
      in_flat names_in e (e, c) (entries m.nodes) (entry_from_get m.nodes e.0 e.1 got) (in_map (λ (x : Name × ℕ). let p : PlacedName = (e, x) in p) c (children_of e.1.body) there)

  named_dir : (p : PlacedName) → get m.nodes p.0.0 ≡ Some p.0.1 → In p.1 (children_of p.0.1.body) → p.0.1.named ≡ true
  named_dir p got there =
      let dir = entry_dir m.nodes m.next well.nodes.tree p.0.0 p.1.0 p.1.1 (child_entry m.nodes m.next well.nodes.tree p.0.0 p.0.1 p.1 got there) in
      subst (λ (v : Node). v.named ≡ true) (same_Some dir.0 p.0.1 (sym dir.1 ∙ got)) dir.2

  found_name : (n : ℕ) (p : PlacedName) → name_to m.nodes n ≡ Some p → (get m.nodes p.0.0 ≡ Some p.0.1) × In p.1 (children_of p.0.1.body) × (p.1.1 ≡ n)
  found_name n p is =
      let found = found_in (λ (q : PlacedName). q.1.1 == n) (placed_names m.nodes) p is in
      let from = placed_from p found.0 in
      (from.0, from.1, eqb-true p.1.1 n found.1)

  name_to_is : (n : ℕ) → entry_to (mount_image m) n ≡ option_map image_name (name_to m.nodes n)
  name_to_is n = by_name (name_to m.nodes n) refl
    where
      by_entry : name_to m.nodes n ≡ None → (o : Option PlacedEntry) → entry_to (mount_image m) n ≡ o → entry_to (mount_image m) n ≡ None
      by_entry none None is = is
      by_entry none (Some q) is =
          let from = entry_to_from (mount_image m) n q is in
          let node = node_from_image m q.0 from.0 in
          let child = child_from_image m.raws node.0 q.1 (subst (λ (x : ImageNode). In q.1 (entries_of x.body)) (sym node.3) from.1) in
          let number : (child.0.1 == n) ≡ true = eq-eqb child.0.1 n (ap (λ (x : List ℕ × ℕ). x.1) child.2 ∙ from.2) in
          absurd (found_some (λ (p : PlacedName). p.1.1 == n) (placed_names m.nodes) (node.0, child.0) (placed_there node.0 child.0 node.1 child.1) number none)

      by_name : (o : Option PlacedName) → name_to m.nodes n ≡ o → entry_to (mount_image m) n ≡ option_map image_name (name_to m.nodes n)
      by_name None is = by_entry is (entry_to (mount_image m) n) refl ∙ ap (option_map image_name) (sym is)
      by_name (Some p) is =
          let found = found_name n p is in
          ap (entry_to (mount_image m)) (sym found.2) ∙ entry_is p.0.0 p.0.1 p.1 found.0 (named_dir p found.0 found.1) found.1 ∙ ap (option_map image_name) (sym is)

  -- ---- nodes

  module _ (back : NamesComeBack) (come : ContentsComeBack) (derives : DerivesBytes hash_sha512) (raw : Option (List ℕ)) (only : IsOnlyKey m.raws raw) where
    place_agrees : (n : ℕ) → option_map (visible_place raw) (entry_to (mount_image m) n) ≡ option_map (expected_place m.raws (option_map key_id_of raw)) (name_to m.nodes n)
    place_agrees n = ap (option_map (visible_place raw)) (name_to_is n) ∙ by_name (name_to m.nodes n) refl
      where
        by_name : (o : Option PlacedName) → name_to m.nodes n ≡ o
            → option_map (visible_place raw) (option_map image_name (name_to m.nodes n)) ≡ option_map (expected_place m.raws (option_map key_id_of raw)) (name_to m.nodes n)
        by_name None is = rw is refl
        by_name (Some p) is =
            let found = found_name n p is in
            let name = well.nodes.names p.0.0 p.1.0 p.1.1 (child_entry m.nodes m.next well.nodes.tree p.0.0 p.0.1 p.1 found.0 found.1) in
            let word = words_agree back derives m.raws p.0.0 p.1.0 name.0.bytes (plain_name p.1.0 name) raw p.0.1.context only (good_from m.raws p.0.1.context (well.nodes.policies p.0.0 p.0.1 found.0)) in
            ap (λ o. option_map (visible_place raw) (option_map image_name o)) is
            ∙ (λ i. Some (p.0.0, word i))
            ∙ ap (option_map (expected_place m.raws (option_map key_id_of raw))) (sym is)

    body_agrees : (n : ℕ) (context : Option Context) (b : Body) → IsGoodOrNone m.raws context → IsBody b
        → visible_body raw n (option_map context_bytes context) (body_in_order (stored_body m.raws n context b)) ≡ expected_body m.raws (option_map key_id_of raw) n context b
    body_agrees n context (Dir cs) good is =
        let stored = stored_children (stored_form m.raws n context) cs in
        let long : length stored ≡ length cs = length-map _ _ in
        ap text.Dir (ordered_long stored ∙ long)
    body_agrees n context (File contents) good is = ap (text.File (length contents)) (digests_agree come derives m.raws n contents is.0 raw context only good)
    body_agrees n context (Link target) good is = ap text.Link (words_agree back derives m.raws n target is.0.bytes (is.0.size.0, is.1, is.0.nul) raw context only good)

    node_agrees : (e : ℕ × Node) → get m.nodes e.0 ≡ Some e.1 → listed raw (mount_image m) (of_mount m.raws e) ≡ shown m (option_map key_id_of raw) e
    node_agrees e got =
        let place = place_agrees e.0 in
        let body = body_agrees e.0 e.1.context e.1.body (good_from m.raws e.1.context (well.nodes.policies e.0 e.1 got)) (well.nodes.bodies e.0 e.1 got) in
        λ i. record { number = e.0; place = place i; body = body i }

    all_pass : filter (λ (node : ImageNode). is_named m.nodes node.number) (mount_image m) ≡ mount_image m
    all_pass = filter_all (λ (node : ImageNode). is_named m.nodes node.number) (mount_image m) (λ node there.
        let from = node_from_image m node there in
        subst (λ (x : ImageNode). is_named m.nodes x.number ≡ true) from.3 (ap is_named_in from.1 ∙ from.2))

    nodes_agree : map (listed raw (mount_image m)) (mount_image m) ≡ map (shown m (option_map key_id_of raw)) (filter (λ (e : ℕ × Node). e.1.named) (entries m.nodes))
    nodes_agree = map_agree (listed raw (mount_image m)) (of_mount m.raws) (shown m (option_map key_id_of raw)) (filter (λ (e : ℕ × Node). e.1.named) (entries m.nodes)) (λ e there.
        let own = in_from_filter (λ (x : ℕ × Node). x.1.named) (entries m.nodes) e there in
        node_agrees e (get_from_entry m.nodes e.0 e.1 own.0))

    pub is_listing : IsListing (mount_image m) raw (expected_listing m (option_map key_id_of raw))
    is_listing = record {
      reached = is_named m.nodes;
      exact = λ n. ((λ named. reached_image (well.nodes.tree.reached n named)), (λ own. reached_named own));
      lines = ap listing_text (sym nodes_agree ∙ ap (map (listed raw (mount_image m))) (sym all_pass));
    }
