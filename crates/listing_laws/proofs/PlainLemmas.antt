-- What holds in a tree of plain nodes of the entries of its directories.
use Rattle.std.proofs.Common.{◌≡◌, ◌≢◌, ℕ, Bool, true, false, [], ◌∷◌, Option, Some, None, bytes_eq, refl, sym, ap, ◌∙◌, subst, inl, inr}
use Rattle.std.specs.List.{IsDistinct}
use Rattle.std.specs.Map.{lookup, keys_of}
use Rattle.std.proofs.lemmas.Bool.{cases_Bool}
use Rattle.std.proofs.lemmas.Option.{same_Some}
use Rattle.number_map.specs.Numbered.{get}
use Rattle.plain_tree.specs.Nodes.{Name, Children, Node, Nodes, children_of}
use Rattle.plain_tree.specs.NodesByNumber.{children, children_in, entry, is_named, is_named_in}
use Rattle.plain_tree.specs.Tree.{IsTree}
use Rattle.plain_tree.proofs.ChildLemmas.{same_name, itself, other_name}
use Rattle.tree_listing.proofs.Members.{In, holds_in, in_map}

-- an entry is found by its name
found_by_name : (cs : Children) → IsDistinct bytes_eq (keys_of cs) → (c : Name × ℕ) → In c cs → lookup (bytes_eq c.0) cs ≡ Some c.1
unfolding IsDistinct
found_by_name [] apart c h = absurd h
found_by_name (e ∷ cs) apart c (inl is) =
    let t : bytes_eq c.0 e.0 ≡ true = ap (λ (x : Name × ℕ). bytes_eq c.0 x.0) is ∙ itself c.0 in
    rw t (ap (λ (x : Name × ℕ). Some x.1) is)
found_by_name (e ∷ cs) apart c (inr h) =
    let other : bytes_eq e.0 c.0 ≡ false = holds_in (λ n. bytes_eq e.0 n ≡ false) (keys_of cs) c.0 apart.0 (in_map (λ (x : Name × ℕ). x.0) c cs h) in
    let t : bytes_eq c.0 e.0 ≡ false = other_name c.0 e.0 (λ same. absurd (cc (other, ap (λ n. bytes_eq n c.0) (sym same), itself c.0))) in
    rw t (found_by_name cs apart.1 c h)

in_from_lookup : (cs : Children) (name : Name) (x : ℕ) → lookup (bytes_eq name) cs ≡ Some x → In (let c : Name × ℕ = (name, x) in c) cs
in_from_lookup [] name x is = absurd (cc is)
in_from_lookup (e ∷ cs) name x is = by_test (bytes_eq name e.0) refl (λ later. in_from_lookup cs name x later)
  where
    by_test : (b : Bool) → bytes_eq name e.0 ≡ b → (lookup (bytes_eq name) cs ≡ Some x → In (name, x) cs) → In (name, x) (e ∷ cs)
    by_test true t later =
        let same : name ≡ e.0 = same_name name e.0 t in
        let number : e.1 ≡ x = same_Some e.1 x (rw t at is) in
        inl (λ i. (sym same i, number i))
    by_test false t later = inr (later (rw t at is))

module _ (nodes : Nodes) (next : ℕ) (tree : IsTree nodes next) where
  -- the entries of a node are found by their names
  pub child_entry : (d : ℕ) (v : Node) (c : Name × ℕ) → get nodes d ≡ Some v → In c (children_of v.body) → entry nodes d c.0 ≡ Some c.1
  child_entry d v c got there =
      found_by_name (children nodes d) (tree.names.distinct d) c (subst (In c) (sym (ap children_in got)) there)

  -- and each has a node, which has a name
  pub entry_dir : (d : ℕ) (name : Name) (x : ℕ) → entry nodes d name ≡ Some x
      → (v : Node) × (get nodes d ≡ Some v) × (v.named ≡ true) × In (let c : Name × ℕ = (name, x) in c) (children_of v.body)
  entry_dir d name x is = by_case (get nodes d) refl
    where
      named : (v : Node) → get nodes d ≡ Some v → v.named ≡ true
      named v got = elim (cases_Bool v.named) [
        | inl yes_named ↦ yes_named
        | inr no_name ↦
            let none = tree.names.nameless d (ap is_named_in got ∙ no_name) in
            absurd (cc (sym is ∙ ap (lookup (bytes_eq name)) none))
      ]

      by_case : (o : Option Node) → get nodes d ≡ o → (v : Node) × (get nodes d ≡ Some v) × (v.named ≡ true) × In (let c : Name × ℕ = (name, x) in c) (children_of v.body)
      by_case None got = absurd (cc (sym is ∙ ap (λ o. lookup (bytes_eq name) (children_in o)) got))
      by_case (Some v) got =
          let own : In (let c : Name × ℕ = (name, x) in c) (children_of v.body) = in_from_lookup (children_of v.body) name x (ap (λ o. lookup (bytes_eq name) (children_in o)) (sym got) ∙ is) in
          (v, got, named v got, own)

  pub named_child : (d : ℕ) (name : Name) (x : ℕ) → entry nodes d name ≡ Some x → (x ≢ 0) × ((w : Node) × (get nodes x ≡ Some w) × (w.named ≡ true))
  named_child d name x is = let leads = tree.names.leads d name x is in (leads.0, there leads.1)
    where
      there : is_named nodes x ≡ true → (w : Node) × (get nodes x ≡ Some w) × (w.named ≡ true)
      there named = by_case (get nodes x) refl
        where
          by_case : (o : Option Node) → get nodes x ≡ o → (w : Node) × (get nodes x ≡ Some w) × (w.named ≡ true)
          by_case None got = absurd (cc (sym named ∙ ap is_named_in got))
          by_case (Some w) got = (w, got, ap is_named_in (sym got) ∙ named)
