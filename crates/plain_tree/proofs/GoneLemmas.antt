-- A tree without a node that has no name.
use Rattle.std.proofs.Common.{◌≡◌, ◌≢◌, ℕ, ◌-◌, ◌≤◌, true, false, length, Option, Some, None, is_some, bytes_eq, inl, inr, refl, sym, ap, subst, ◌∙◌, arith}
use Rattle.std.proofs.lemmas.Bool.{cases_eq}
use Rattle.std.specs.List.{IsDistinct}
use Rattle.std.specs.Map.{lookup, keys_of}
use Rattle.number_map.specs.Numbered.{get, len}
use Rattle.number_map.proofs.NumberedLemmas.{len_removed, remove_same, remove_here, remove_other}
use Rattle.plain_tree.specs.Nodes.{Name, Node, Nodes}
use Rattle.plain_tree.specs.NodesByNumber.{children_in, context_in, is_named_in, is_dir_in, children, is_named, entry}
use Rattle.plain_tree.specs.Changes.{without_node}
use Rattle.plain_tree.specs.Tree.{HasNames, IsTree}
use Rattle.mount_limits.specs.declared.TheConstants.{MAX_CHILDREN}
use Rattle.plain_tree.proofs.ReadLemmas.{read_removed}
use Rattle.plain_tree.proofs.ReachedLemmas.{reached_kept}

-- there are no more nodes than before
pub gone_count : (nodes : Nodes) (x : ℕ) → len (without_node nodes x) ≤ len nodes
gone_count nodes x = by_case (get nodes x) refl
  where
    by_case : (o : Option Node) → get nodes x ≡ o → len (without_node nodes x) ≤ len nodes
    by_case None is = let same : len (without_node nodes x) ≡ len nodes = ap len (remove_same nodes x is) in omega arith
    by_case (Some v) is = let fewer : len (without_node nodes x) ≡ len nodes - 1 = len_removed nodes x v is in omega arith

module _ (nodes : Nodes) (next x : ℕ) (tree : IsTree nodes next) (nameless : is_named nodes x ≡ false) where
  abbrev after : Nodes
  after = without_node nodes x

  pub gone_children : (q : ℕ) → children after q ≡ children nodes q
  gone_children = read_removed children_in nodes x (sym (tree.names.nameless x nameless))

  pub gone_named : (q : ℕ) → is_named after q ≡ is_named nodes q
  gone_named = read_removed is_named_in nodes x (sym nameless)

  pub gone_entry : (q : ℕ) (n : Name) → entry after q n ≡ entry nodes q n
  gone_entry q n = ap (lookup (bytes_eq n)) (gone_children q)

  pub gone_not_root : 0 ≢ x
  gone_not_root same = let named : is_named nodes x ≡ true = ap (is_named nodes) (sym same) ∙ tree.root.named in absurd (cc)

  pub gone_others : (q : ℕ) → (q ≢ x) → get after q ≡ get nodes q
  gone_others q differ = remove_other nodes x q differ

  still_there : (q : ℕ) → is_some (get after q) ≡ true → is_some (get nodes q) ≡ true
  still_there q there = elim (cases_eq q x) [
    | inl is ↦ let none : is_some (get after q) ≡ false = ap (λ y. is_some (get after y)) is ∙ ap (λ o. is_some o) (remove_here nodes x) in absurd (cc)
    | inr differ ↦ sym (ap (λ o. is_some o) (gone_others q differ)) ∙ there
  ]

  was : (q : ℕ) (n : Name) (z : ℕ) → entry after q n ≡ Some z → entry nodes q n ≡ Some z
  was q n z found = sym (gone_entry q n) ∙ found

  names_after : HasNames after
  names_after = record {
    leads = λ q n z found. let old = tree.names.leads q n z (was q n z found) in (old.0, gone_named z ∙ old.1);
    once = λ q e a b z one two. tree.names.once q e a b z (was q a z one) (was e b z two);
    distinct = λ q. subst (λ cs. IsDistinct bytes_eq (keys_of cs)) (sym (gone_children q)) (tree.names.distinct q);
    nameless = λ q none. gone_children q ∙ tree.names.nameless q (sym (gone_named q) ∙ none);
  }

  pub gone_tree : IsTree (without_node nodes x) next
  gone_tree = record {
    root = record {
      named = gone_named 0 ∙ tree.root.named;
      dir = ap is_dir_in (gone_others 0 gone_not_root) ∙ tree.root.dir;
      plain = ap context_in (gone_others 0 gone_not_root) ∙ tree.root.plain;
    };
    names = names_after;
    reached = λ q named. reached_kept nodes after (λ e n z found. gone_entry e n ∙ found) (tree.reached q (sym (gone_named q) ∙ named));
    room = record {
      below = λ q there. tree.room.below q (still_there q there);
      few_nodes = let fewer = gone_count nodes x in let few = tree.room.few_nodes in omega arith;
      few_children = λ q. subst (λ cs. length cs ≤ MAX_CHILDREN) (sym (gone_children q)) (tree.room.few_children q);
    };
  }
