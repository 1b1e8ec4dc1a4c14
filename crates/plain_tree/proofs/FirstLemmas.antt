-- The first nodes are a tree.
use Rattle.std.proofs.Common.{◌≡◌, ◌≢◌, ℕ, ◌+◌, ◌≤◌, true, false, [], ◌∷◌, length, Option, Some, None, is_some, bytes_eq, inl, inr, refl, sym, ap, subst, ◌∙◌, arith}
use Rattle.std.proofs.lemmas.Bool.{cases_eq}
use Rattle.std.specs.List.{IsDistinct}
use Rattle.std.specs.Map.{lookup, keys_of}
use Rattle.std.specs.FinMap.{get-empty}
use Rattle.std.specs.FinMap as fin
use Rattle.std.specs.Ordering.{nat_cmp}
use Rattle.number_map.specs.Numbered.{empty, get, len}
use Rattle.number_map.proofs.NumberedLemmas.{insert_here, insert_other, len_added}
use Rattle.plain_tree.specs.Nodes.{Name, Children, Dir, Node, Nodes}
use Rattle.plain_tree.specs.NodesByNumber.{children_in, context_in, is_named_in, is_dir_in, children, is_named, entry}
use Rattle.plain_tree.specs.Changes.{first_nodes}
use Rattle.plain_tree.specs.Tree.{IsReached, IsTree}
use Rattle.plain_tree.specs.Seals.{Texts, IsSealed}
use Rattle.mount_limits.specs.declared.TheConstants.{MAX_CHILDREN}

abbrev none_yet : Nodes
none_yet = empty

root : Node
root = record { named = true; context = None; body = Dir [] }

root_here : get first_nodes 0 ≡ Some root
unfolding root
root_here = insert_here empty 0 root

nothing_else : (q : ℕ) → (q ≢ 0) → get first_nodes q ≡ None
unfolding root
nothing_else q differ = insert_other empty 0 root q differ ∙ get-empty nat_cmp q

-- no node has an entry
pub first_children : (q : ℕ) → children first_nodes q ≡ []
unfolding root
first_children q = elim (cases_eq q 0) [
  | inl is ↦ ap (children first_nodes) is ∙ ap children_in root_here
  | inr differ ↦ ap children_in (nothing_else q differ)
]

pub first_context : (q : ℕ) → context_in (get first_nodes q) ≡ None
unfolding root
first_context q = elim (cases_eq q 0) [
  | inl is ↦ ap (λ y. context_in (get first_nodes y)) is ∙ ap context_in root_here
  | inr differ ↦ ap context_in (nothing_else q differ)
]

unled : (q : ℕ) (n : Name) (z : ℕ) → entry first_nodes q n ≡ Some z → ⊥
unled q n z found = let lacks : None ≡ Some z = sym (ap (lookup (bytes_eq n)) (first_children q)) ∙ found in absurd (cc)

only_root : (q : ℕ) → is_some (get first_nodes q) ≡ true → q ≡ 0
only_root q there = elim (cases_eq q 0) [
  | inl is ↦ is
  | inr differ ↦ let none : is_some (get first_nodes q) ≡ false = ap (λ o. is_some o) (nothing_else q differ) in absurd (cc)
]

named_there : (q : ℕ) → is_named first_nodes q ≡ true → is_some (get first_nodes q) ≡ true
named_there q named = by_case (get first_nodes q) named
  where
    by_case : (o : Option Node) → is_named_in o ≡ true → is_some o ≡ true
    by_case None is = is
    by_case (Some v) is = refl

none_distinct : (cs : Children) → cs ≡ [] → IsDistinct bytes_eq (keys_of cs)
unfolding IsDistinct
none_distinct [] is = tt
none_distinct (e ∷ cs) is = absurd (cc)

pub first_tree : IsTree first_nodes 1
unfolding root
first_tree = record {
  root = record {
    named = ap is_named_in root_here;
    dir = ap is_dir_in root_here;
    plain = ap context_in root_here;
  };
  names = record {
    leads = λ q n z found. absurd (unled q n z found);
    once = λ q e a b z one two. absurd (unled q a z one);
    distinct = λ q. none_distinct (children first_nodes q) (first_children q);
    nameless = λ q none. first_children q;
  };
  reached = λ q named. subst (IsReached first_nodes) (sym (only_root q (named_there q named))) IsReached.root;
  room = record {
    below = λ q there. omega (arith, only_root q there);
    few_nodes =
        let one : len first_nodes ≡ len none_yet + 1 = len_added empty 0 root (get-empty nat_cmp 0) in
        omega (arith, one, fin.len-empty nat_cmp Node);
    few_children = λ q. subst (λ cs. length cs ≤ MAX_CHILDREN) (sym (first_children q)) (omega arith);
  };
}

pub first_sealed : (texts : Texts) → IsSealed texts first_nodes
first_sealed texts = record {
  inherits = λ d n x c has found. absurd (unled d n x found);
  apart = λ d a b x y c has one two same. absurd (unled d a x one);
}
