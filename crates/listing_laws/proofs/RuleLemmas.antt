-- The image of a mount is an image: its nodes obey the rules.
use Rattle.std.proofs.Common.{◌≡◌, ℕ, ◌<◌, true, List, [], ◌∷◌, option_map, bytes_eq, Option, Some, None, is_some, refl, sym, ap, ◌∙◌, subst, inl, inr, arith, ◌^◌}
use Rattle.std.specs.List.{IsDistinct}
use Rattle.std.specs.List.Sorted.{IsStrictlySortedBy}
use Rattle.std.specs.Map.{keys_of}
use Rattle.std.specs.Ordering.{nat_cmp}
use Rattle.std.specs.declared.cmp.Ordering.TheVariants.{Less}
use Rattle.std.proofs.lemmas.Cmp.{ranked}
use Rattle.std.proofs.lemmas.List.Elements.{All-from_recursion}
use Rattle.policy_ctx.specs.declared.policy.Context.{Context}
use Rattle.policy_ctx.specs.Context.{context_bytes}
use Rattle.hmac_kdf.specs.Hmac.{hash_sha512}
use Rattle.hmac_kdf.specs.DerivedBytes.{DerivesBytes}
use Rattle.name_crypt.specs.Laws.{StoredNamesAreBytes, StoredNamesFit}
use Rattle.name_crypt.specs.NoKeyText.{nokey_text_of}
use Rattle.name_crypt.specs.Plain.{IsPlain}
use Rattle.number_map.specs.Numbered.{get}
use Rattle.plain_tree.specs.Nodes.{Name, Node, Body, Dir, File, Link, children_of, is_dir}
use Rattle.plain_tree.specs.NodesByNumber.{children_in, context_in, is_dir_in, is_named_in}
use Rattle.plain_tree.specs.Stored.{stored_children}
use Rattle.disk_tree.specs.Nodes.{IsDir}
use Rattle.mount_model.specs.PlainMount.{PlainMount}
use Rattle.mount_model.specs.Sealed.{sealed_name, texts}
use Rattle.mount_model.specs.WellFormed.{IsWellFormed}
use Rattle.mount_model.specs.SoundNodes.{HasRaw, IsBody as IsPlainBody}
use Rattle.mount_state.specs.Stored.{contents_seal, stored_body, stored_form}
use Rattle.image_lines.specs.Image.{Image, ImageNode, numbers_of}
use Rattle.image_lines.specs.Rules.{BeginsWithRoot, IsImage}
use Rattle.image_lines.specs.NodeRules.{IsBody, IsContext, IsEntry, IsNode}
use Rattle.tree_image.specs.Images.{mount_image}
use Rattle.tree_image.specs.Order.{in_order, body_in_order}
use Rattle.tree_listing.proofs.Members.{In, all_from_in, holds_in, in_from_map, in_map}
use Rattle.listing_laws.specs.Laws.{HasNonces}
use Rattle.listing_laws.proofs.MapLemmas.{in_from_ordered}
use Rattle.listing_laws.proofs.PlainLemmas.{child_entry, named_child}
use Rattle.listing_laws.proofs.ChildrenLemmas.{good_children, image_rises, node_from_image, node_in_image, of_mount}
use Rattle.listing_laws.proofs.FormLemmas.{context_is, id_is_bytes, stored_entry_name, stored_bytes, stored_target, blocks_are, count_is, seal_is_bytes}
use Rattle.listing_laws.proofs.RisingLemmas.{order_rises, keys_apart}

-- ---- the root is first

begins : (image : Image) → IsStrictlySortedBy nat_cmp (numbers_of image) → (root : ImageNode) → In root image → root.number ≡ 0 → root.context ≡ None → IsDir root.body
    → BeginsWithRoot image
unfolding IsStrictlySortedBy
begins [] rises root there number context dir = absurd there
begins (node ∷ nodes) rises root (inl is) number context dir =
    subst (λ (n : ImageNode). (n.number ≡ 0) × (n.context ≡ None) × IsDir n.body) (sym is) (number, context, dir)
begins (node ∷ nodes) rises root (inr there) number context dir =
    let less = holds_in (λ y. nat_cmp node.number y ≡ Less) (numbers_of nodes) root.number rises.0 (in_map (λ (n : ImageNode). n.number) root nodes there) in
    let below : node.number < root.number = ranked node.number root.number Less (sym less) in
    absurd (omega (arith, below, number))

-- ---- nodes

module _ (fit : StoredNamesFit) (are : StoredNamesAreBytes) (derives : DerivesBytes hash_sha512) (m : PlainMount) (well : IsWellFormed m) (nonces : HasNonces m.nodes) where
  number_small : (x : ℕ) (v : Node) → get m.nodes x ≡ Some v → x < 2 ^ 32
  number_small x v got =
      let below = well.nodes.tree.room.below x (ap is_some got) in
      omega (arith, below, well.nodes.numbers)

  context_good : (n : ℕ) (v : Node) → get m.nodes n ≡ Some v → IsContext (option_map context_bytes v.context)
  context_good n v got = by_case v.context refl (well.nodes.policies n v got)
    where
      by_case : (o : Option Context) → v.context ≡ o → HasRaw m.raws v.context → IsContext (option_map context_bytes v.context)
      by_case None is has = subst (λ o. IsContext (option_map context_bytes o)) (sym is) tt
      by_case (Some c) is has =
          let own : HasRaw m.raws (Some c) = subst (HasRaw m.raws) is has in
          subst (λ o. IsContext (option_map context_bytes o)) (sym is)
          (context_is c own.0 (id_is_bytes derives m well c own.1) (nonces n v got c is))

  stored_one : (d : ℕ) (v : Node) → get m.nodes d ≡ Some v → (a b : Name × ℕ) → In a (children_of v.body) → In b (children_of v.body)
      → stored_form m.raws d v.context a.0 ≡ stored_form m.raws d v.context b.0 → a.0 ≡ b.0
  unfolding texts
  stored_one d v got a b ta tb = by_case v.context refl
    where
      by_case : (o : Option Context) → v.context ≡ o → stored_form m.raws d v.context a.0 ≡ stored_form m.raws d v.context b.0 → a.0 ≡ b.0
      by_case None is same = ap (λ o. stored_form m.raws d o a.0) (sym is) ∙ same ∙ ap (λ o. stored_form m.raws d o b.0) is
      by_case (Some c) is same =
          let stored : sealed_name m.raws d c a.0 ≡ sealed_name m.raws d c b.0 = ap (λ o. stored_form m.raws d o a.0) (sym is) ∙ same ∙ ap (λ o. stored_form m.raws d o b.0) is in
          well.nodes.sealed.apart d a.0 b.0 a.1 b.1 c (ap context_in got ∙ is)
          (child_entry m.nodes m.next well.nodes.tree d v a got ta) (child_entry m.nodes m.next well.nodes.tree d v b got tb) (ap nokey_text_of stored)

  entry_good : (d : ℕ) (v : Node) (c : Name × ℕ) → get m.nodes d ≡ Some v → In c (children_of v.body)
      → IsEntry (is_some (option_map context_bytes v.context)) (stored_form m.raws d v.context c.0, c.1)
  entry_good d v c got there =
      let found = child_entry m.nodes m.next well.nodes.tree d v c got there in
      let name = well.nodes.names d c.0 c.1 found in
      let child = (named_child m.nodes m.next well.nodes.tree d c.0 c.1 found).1 in record {
        name = stored_entry_name fit are derives m.raws d v.context c.0 name;
        bytes = stored_bytes fit are derives m.raws d v.context c.0 name.0.bytes (name.0.size.0, name.1, name.0.nul);
        child = number_small c.1 child.0 child.1;
      }

  body_good : (n : ℕ) (v : Node) → get m.nodes n ≡ Some v → (b : Body) → v.body ≡ b → IsBody (is_some (option_map context_bytes v.context)) (body_in_order (stored_body m.raws n v.context b))
  body_good n v got (Dir cs) is =
      let keys = subst (λ l. IsDistinct bytes_eq (keys_of l)) (ap children_in got ∙ ap children_of is) (well.nodes.tree.names.distinct n) in
      let stored = stored_children (stored_form m.raws n v.context) cs in
      let own = λ (c : Name × ℕ) (there : In c cs). subst (λ b. In c (children_of b)) (sym is) there in (
        All-from_recursion (IsEntry (is_some (option_map context_bytes v.context))) (in_order stored)
            (all_from_in (IsEntry (is_some (option_map context_bytes v.context))) (in_order stored) (λ x there.
            let from = in_from_map (λ (c : Name × ℕ). let z : List ℕ × ℕ = (stored_form m.raws n v.context c.0, c.1) in z) x cs (in_from_ordered x stored there) in
            subst (IsEntry (is_some (option_map context_bytes v.context))) from.2 (entry_good n v from.0 got (own from.0 from.1)))),
        order_rises stored (keys_apart (stored_form m.raws n v.context) cs keys (λ a b ta tb same. stored_one n v got a b (own a ta) (own b tb) same)),
      )
  body_good n v got (File contents) is =
      let few : IsPlainBody (File contents) = subst IsPlainBody is (well.nodes.bodies n v got) in
      (few.1, count_is (contents_seal m.raws n v.context) contents, blocks_are (contents_seal m.raws n v.context) (seal_is_bytes derives m.raws n v.context) contents few.0)
  body_good n v got (Link target) is =
      let own : IsPlainBody (Link target) = subst IsPlainBody is (well.nodes.bodies n v got) in
      let plain : IsPlain target = (own.0.size.0, own.1, own.0.nul) in
      (stored_target fit are derives m.raws n v.context target plain, stored_bytes fit are derives m.raws n v.context target own.0.bytes plain)

  node_good : (node : ImageNode) → In node (mount_image m) → IsNode node
  node_good node there =
      let from = node_from_image m node there in
      subst IsNode from.3 (record {
        number = number_small from.0.0 from.0.1 from.1;
        context = context_good from.0.0 from.0.1 from.1;
        body = body_good from.0.0 from.0.1 from.1 from.0.1.body refl;
      })

  root_good : BeginsWithRoot (mount_image m)
  root_good = by_case (get m.nodes 0) refl
    where
      dir_body : (context : Option Context) (b : Body) → is_dir b ≡ true → IsDir (body_in_order (stored_body m.raws 0 context b))
      dir_body context (Dir cs) is = tt
      dir_body context (File contents) is = absurd (cc is)
      dir_body context (Link target) is = absurd (cc is)

      by_case : (o : Option Node) → get m.nodes 0 ≡ o → BeginsWithRoot (mount_image m)
      by_case None got = absurd (cc (sym well.nodes.tree.root.named ∙ ap is_named_in got))
      by_case (Some v) got =
          begins (mount_image m) (image_rises m) (of_mount m.raws (0, v)) (node_in_image m 0 v got (ap is_named_in (sym got) ∙ well.nodes.tree.root.named)) refl
          (ap (option_map context_bytes) (ap context_in (sym got) ∙ well.nodes.tree.root.plain))
          (dir_body v.context v.body (ap is_dir_in (sym got) ∙ well.nodes.tree.root.dir))

  pub mount_image_is : IsImage (mount_image m)
  mount_image_is = record {
    lines = record {
      root = root_good;
      rising = image_rises m;
      each = All-from_recursion IsNode (mount_image m) (all_from_in IsNode (mount_image m) node_good);
    };
    children = good_children m well.nodes.tree;
  }
