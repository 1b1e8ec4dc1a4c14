-- A tree in which a node without entries loses its name.
use Rattle.std.proofs.Common.{◌≡◌, ◌≢◌, ℕ, ◌≤◌, false, [], length, Option, Some, None, option_map, is_some, bytes_eq, inl, inr, refl, sym, ap, subst, ◌∙◌, arith}
use Rattle.std.proofs.lemmas.Bool.{cases_eq}
use Rattle.std.specs.List.{IsDistinct}
use Rattle.std.specs.Map.{lookup, keys_of}
use Rattle.number_map.specs.Numbered.{get}
use Rattle.number_map.proofs.NumberedLemmas.{len_changed, changed_here, changed_other}
use Rattle.plain_tree.specs.Nodes.{Name, Node, Nodes}
use Rattle.plain_tree.specs.BodyChanges.{without_child}
use Rattle.plain_tree.specs.NodesByNumber.{children_in, context_in, is_named_in, is_dir_in, children, context_at, is_named, is_dir_at, entry}
use Rattle.plain_tree.specs.Changes.{on_children, named_as, without_entry_name, dropped}
use Rattle.plain_tree.specs.Tree.{HasNames, IsTree}
use Rattle.mount_limits.specs.declared.TheConstants.{MAX_NODES, MAX_CHILDREN}
use Rattle.plain_tree.proofs.ReadLemmas.{read_changed}
use Rattle.plain_tree.proofs.EditLemmas.{edit_context, edit_named, edit_dir, edit_there, edit_others, taken_children, taken_names, taken_count, taken_from, taken_kept}
use Rattle.plain_tree.proofs.ReachedLemmas.{childless, reached_beside}

module _ (nodes : Nodes) (d : ℕ) (name : Name) (x : ℕ) where
  abbrev after : Nodes
  after = dropped nodes d name x

  abbrev taken : Nodes
  taken = without_entry_name nodes d name

  pub dropped_children : (q : ℕ) → children after q ≡ children taken q
  dropped_children = read_changed children_in taken x (named_as false) (λ v. refl)

  pub dropped_context : (q : ℕ) → context_at after q ≡ context_at nodes q
  dropped_context q = read_changed context_in taken x (named_as false) (λ v. refl) q ∙ edit_context nodes d (without_child name) q

  pub dropped_dir : (q : ℕ) → is_dir_at after q ≡ is_dir_at nodes q
  dropped_dir q = read_changed is_dir_in taken x (named_as false) (λ v. refl) q ∙ edit_dir nodes d (without_child name) q

  pub dropped_there : (q : ℕ) → is_some (get after q) ≡ is_some (get nodes q)
  dropped_there q = read_changed (λ o. is_some o) taken x (named_as false) (λ v. refl) q ∙ edit_there nodes d (without_child name) q

  pub dropped_others : (q : ℕ) → (q ≢ x) → is_named after q ≡ is_named nodes q
  dropped_others q differ = ap is_named_in (changed_other taken x (named_as false) q differ) ∙ edit_named nodes d (without_child name) q

  -- the node has no name any more
  pub dropped_nameless : is_named after x ≡ false
  dropped_nameless = ap is_named_in (changed_here taken x (named_as false)) ∙ by_case (get taken x)
    where
      by_case : (o : Option Node) → is_named_in (option_map (named_as false) o) ≡ false
      by_case None = refl
      by_case (Some v) = refl

  pub dropped_entry : (q : ℕ) (n : Name) → entry after q n ≡ entry taken q n
  dropped_entry q n = ap (lookup (bytes_eq n)) (dropped_children q)

  module _ (next : ℕ) (tree : IsTree nodes next) (led : entry nodes d name ≡ Some x) (none : children nodes x ≡ []) where
    pub dropped_from : (q : ℕ) (n : Name) (z : ℕ) → entry after q n ≡ Some z → (entry nodes q n ≡ Some z) × (z ≢ x)
    dropped_from q n z found = taken_from nodes d name x tree.names led q n z (sym (dropped_entry q n) ∙ found)

    pub dropped_kept : (q : ℕ) (n : Name) (z : ℕ) → entry nodes q n ≡ Some z → (z ≢ x) → entry after q n ≡ Some z
    dropped_kept q n z found differ = dropped_entry q n ∙ taken_kept nodes d name x tree.names led q n z found differ

    not_root : 0 ≢ x
    not_root same = (tree.names.leads d name x led).0 (sym same)

    not_itself : x ≢ d
    not_itself same = childless nodes x name x none (ap (λ y. entry nodes y name) same ∙ led)

    names_after : HasNames after
    names_after = record {
      leads = λ q n z found.
          let was = dropped_from q n z found in let old = tree.names.leads q n z was.0 in
          (old.0, dropped_others z was.1 ∙ old.1);
      once = λ q e a b z one two. tree.names.once q e a b z (dropped_from q a z one).0 (dropped_from e b z two).0;
      distinct = λ q. subst (λ cs. IsDistinct bytes_eq (keys_of cs)) (sym (dropped_children q)) (taken_names nodes d name tree.names.distinct q);
      nameless = λ q nameless. elim (cases_eq q x) [
        | inl is ↦
            ap (children after) is ∙ dropped_children x ∙ edit_others nodes d (without_child name) x not_itself ∙ none
        | inr differ ↦
            let before : children nodes q ≡ [] = tree.names.nameless q (sym (dropped_others q differ) ∙ nameless) in
            dropped_children q ∙ elim (cases_eq q d) [
              | inl same ↦ ap (children taken) same ∙ taken_children nodes d name ∙ ap (without_child name) (ap (children nodes) (sym same) ∙ before)
              | inr apart ↦ edit_others nodes d (without_child name) q apart ∙ before
            ]
      ];
    }

    pub dropped_tree : IsTree (dropped nodes d name x) next
    dropped_tree = record {
      root = record {
        named = dropped_others 0 not_root ∙ tree.root.named;
        dir = dropped_dir 0 ∙ tree.root.dir;
        plain = dropped_context 0 ∙ tree.root.plain;
      };
      names = names_after;
      reached = λ q named.
          let differ : q ≢ x = λ same. let gone : is_named after q ≡ false = ap (is_named after) same ∙ dropped_nameless in absurd (cc) in
          reached_beside nodes after x dropped_kept (λ n z. childless nodes x n z none) differ
          (tree.reached q (sym (dropped_others q differ) ∙ named));
      room = record {
        below = λ q there. tree.room.below q (sym (dropped_there q) ∙ there);
        few_nodes = subst (λ n. n ≤ MAX_NODES) (sym (len_changed taken x (named_as false) ∙ len_changed nodes d (on_children (without_child name)))) tree.room.few_nodes;
        few_children = λ q.
            let fewer = taken_count nodes d name q in let few = tree.room.few_children q in
            subst (λ cs. length cs ≤ MAX_CHILDREN) (sym (dropped_children q)) (omega arith);
      };
    }
