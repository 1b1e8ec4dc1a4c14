-- The two edits of a directory: what its names resolve to after a name was added or removed.
use Rattle.std.proofs.Common.{◌≡◌, ◌≢◌, ℕ, ◌+◌, ◌≤◌, true, [], length, Option, Some, None, option_map, is_some, bytes_eq, inl, inr, ◌⊎◌, refl, sym, ap, subst, ◌∙◌, arith}
use Rattle.std.proofs.lemmas.Bool.{cases_eq}
use Rattle.std.specs.List.{IsDistinct}
use Rattle.std.specs.Map.{lookup, keys_of}
use Rattle.number_map.specs.Numbered.{get, changed}
use Rattle.number_map.proofs.NumberedLemmas.{changed_here, changed_other}
use Rattle.plain_tree.specs.Nodes.{Name, Children, Body, Dir, File, Link, Node, Nodes, children_of, is_dir}
use Rattle.plain_tree.specs.BodyChanges.{with_children, with_child, without_child}
use Rattle.plain_tree.specs.NodesByNumber.{children_in, context_in, is_named_in, is_dir_in, children, context_at, is_named, is_dir_at, entry}
use Rattle.plain_tree.specs.Changes.{on_children, with_name, without_entry_name}
use Rattle.plain_tree.specs.Tree.{HasNames}
use Rattle.plain_tree.proofs.ChildLemmas.{other_name, cases_name, itself, put_found, put_passed, put_distinct, put_length, taken_other, taken_here, taken_distinct, taken_length, taken_one}
use Rattle.plain_tree.proofs.ReadLemmas.{read_changed}

-- ---- what an edit of entries leaves

pub dir_stays : (g : Children → Children) (b : Body) → is_dir (with_children g b) ≡ is_dir b
dir_stays g (Dir cs) = refl
dir_stays g (File contents) = refl
dir_stays g (Link target) = refl

module _ (nodes : Nodes) (d : ℕ) (g : Children → Children) where
  pub edit_context : (x : ℕ) → context_at (changed nodes d (on_children g)) x ≡ context_at nodes x
  edit_context = read_changed context_in nodes d (on_children g) (λ v. refl)

  pub edit_named : (x : ℕ) → is_named (changed nodes d (on_children g)) x ≡ is_named nodes x
  edit_named = read_changed is_named_in nodes d (on_children g) (λ v. refl)

  pub edit_dir : (x : ℕ) → is_dir_at (changed nodes d (on_children g)) x ≡ is_dir_at nodes x
  edit_dir = read_changed is_dir_in nodes d (on_children g) (λ v. dir_stays g v.body)

  pub edit_there : (x : ℕ) → is_some (get (changed nodes d (on_children g)) x) ≡ is_some (get nodes x)
  edit_there = read_changed (λ o. is_some o) nodes d (on_children g) (λ v. refl)

  pub edit_others : (x : ℕ) → (x ≢ d) → children (changed nodes d (on_children g)) x ≡ children nodes x
  edit_others x differ = ap children_in (changed_other nodes d (on_children g) x differ)

  dir_edit : (o : Option Node) → is_dir_in o ≡ true → children_in (option_map (on_children g) o) ≡ g (children_in o)
  dir_edit None dir = absurd (cc)
  dir_edit (Some v) dir = at_body v.body dir
    where
      at_body : (b : Body) → is_dir b ≡ true → children_of (with_children g b) ≡ g (children_of b)
      at_body (Dir cs) is = refl
      at_body (File contents) is = absurd (cc)
      at_body (Link target) is = absurd (cc)

  -- a directory's entries are edited
  pub edit_here : is_dir_at nodes d ≡ true → children (changed nodes d (on_children g)) d ≡ g (children nodes d)
  edit_here dir = ap children_in (changed_here nodes d (on_children g)) ∙ dir_edit (get nodes d) dir

  body_edit : g [] ≡ [] → (b : Body) → children_of (with_children g b) ≡ g (children_of b)
  body_edit none (Dir cs) = refl
  body_edit none (File contents) = sym none
  body_edit none (Link target) = sym none

  any_edit : g [] ≡ [] → (o : Option Node) → children_in (option_map (on_children g) o) ≡ g (children_in o)
  any_edit none None = sym none
  any_edit none (Some v) = body_edit none v.body

  -- and so are those of any node, by an edit that makes none of none
  pub edit_any : g [] ≡ [] → children (changed nodes d (on_children g)) d ≡ g (children nodes d)
  edit_any none = ap children_in (changed_here nodes d (on_children g)) ∙ any_edit none (get nodes d)

-- ---- a name put in

module _ (nodes : Nodes) (d : ℕ) (name : Name) (x : ℕ) (dir : is_dir_at nodes d ≡ true) where
  pub put_children : children (with_name nodes d name x) d ≡ with_child name x (children nodes d)
  put_children = edit_here nodes d (with_child name x) dir

  pub put_here : entry nodes d name ≡ None → entry (with_name nodes d name x) d name ≡ Some x
  put_here free = ap (lookup (bytes_eq name)) put_children ∙ put_found (bytes_eq name) name x (children nodes d) (itself name) free

  pub put_apart : (q : ℕ) (n : Name) → ((q ≡ d) → (n ≢ name)) → entry (with_name nodes d name x) q n ≡ entry nodes q n
  put_apart q n apart = elim (cases_eq q d) [
    | inl is ↦
        ap (λ y. entry (with_name nodes d name x) y n) is ∙ ap (lookup (bytes_eq n)) put_children
        ∙ put_passed (bytes_eq n) name x (children nodes d) (other_name n name (apart is))
        ∙ ap (λ y. entry nodes y n) (sym is)
    | inr differ ↦ ap (lookup (bytes_eq n)) (edit_others nodes d (with_child name x) q differ)
  ]

  -- a name that resolved to a node still resolves to it
  pub put_kept : entry nodes d name ≡ None → (q : ℕ) (n : Name) (z : ℕ) → entry nodes q n ≡ Some z → entry (with_name nodes d name x) q n ≡ Some z
  put_kept free q n z found =
      put_apart q n (λ is same. let lacks : None ≡ Some z = sym free ∙ ap (entry nodes d) (sym same) ∙ ap (λ y. entry nodes y n) (sym is) ∙ found in absurd (cc)) ∙ found

  -- and no others do but the new one
  pub put_from : entry nodes d name ≡ None → (q : ℕ) (n : Name) (z : ℕ) → entry (with_name nodes d name x) q n ≡ Some z → (entry nodes q n ≡ Some z) ⊎ ((q ≡ d) × (n ≡ name) × (z ≡ x))
  put_from free q n z found = elim (cases_eq q d) [
    | inl is ↦ elim (cases_name n name) [
      | inl same ↦
          let here : Some z ≡ Some x = sym found ∙ ap (entry (with_name nodes d name x) q) same ∙ ap (λ y. entry (with_name nodes d name x) y name) is ∙ put_here free in
          inr (is, same, cc)
      | inr other ↦ inl (sym (put_apart q n (λ e. other)) ∙ found)
    ]
    | inr differ ↦ inl (sym (put_apart q n (λ e. absurd (differ e))) ∙ found)
  ]

  pub put_apart_names : entry nodes d name ≡ None → ((q : ℕ) → IsDistinct bytes_eq (keys_of (children nodes q))) → (q : ℕ) → IsDistinct bytes_eq (keys_of (children (with_name nodes d name x) q))
  put_apart_names free distinct q = elim (cases_eq q d) [
    | inl is ↦
        subst (λ cs. IsDistinct bytes_eq (keys_of cs)) (sym put_children ∙ ap (children (with_name nodes d name x)) (sym is))
        (put_distinct name x (children nodes d) free (distinct d))
    | inr differ ↦ subst (λ cs. IsDistinct bytes_eq (keys_of cs)) (sym (edit_others nodes d (with_child name x) q differ)) (distinct q)
  ]

  pub put_count : length (children (with_name nodes d name x) d) ≡ length (children nodes d) + 1
  put_count = ap length put_children ∙ put_length name x (children nodes d)

-- ---- a name taken out

module _ (nodes : Nodes) (d : ℕ) (name : Name) where
  pub taken_children : children (without_entry_name nodes d name) d ≡ without_child name (children nodes d)
  taken_children = edit_any nodes d (without_child name) refl

  pub taken_apart : (q : ℕ) (n : Name) → ((q ≡ d) → (n ≢ name)) → entry (without_entry_name nodes d name) q n ≡ entry nodes q n
  taken_apart q n apart = elim (cases_eq q d) [
    | inl is ↦
        ap (λ y. entry (without_entry_name nodes d name) y n) is ∙ ap (lookup (bytes_eq n)) taken_children
        ∙ taken_other n name (children nodes d) (apart is)
        ∙ ap (λ y. entry nodes y n) (sym is)
    | inr differ ↦ ap (lookup (bytes_eq n)) (edit_others nodes d (without_child name) q differ)
  ]

  pub taken_names : ((q : ℕ) → IsDistinct bytes_eq (keys_of (children nodes q))) → (q : ℕ) → IsDistinct bytes_eq (keys_of (children (without_entry_name nodes d name) q))
  taken_names distinct q = elim (cases_eq q d) [
    | inl is ↦
        subst (λ cs. IsDistinct bytes_eq (keys_of cs)) (sym taken_children ∙ ap (children (without_entry_name nodes d name)) (sym is))
        (taken_distinct (bytes_eq name) (children nodes d) (distinct d))
    | inr differ ↦ subst (λ cs. IsDistinct bytes_eq (keys_of cs)) (sym (edit_others nodes d (without_child name) q differ)) (distinct q)
  ]

  pub taken_count : (q : ℕ) → length (children (without_entry_name nodes d name) q) ≤ length (children nodes q)
  taken_count q = elim (cases_eq q d) [
    | inl is ↦
        let here : length (children (without_entry_name nodes d name) d) ≤ length (children nodes d)
        = subst (λ cs. length cs ≤ length (children nodes d)) (sym taken_children) (taken_length (bytes_eq name) (children nodes d)) in
        subst (λ y. length (children (without_entry_name nodes d name) y) ≤ length (children nodes y)) (sym is) here
    | inr differ ↦ subst (λ cs. length cs ≤ length (children nodes q)) (sym (edit_others nodes d (without_child name) q differ)) (omega arith)
  ]

  module _ (x : ℕ) (names : HasNames nodes) (led : entry nodes d name ≡ Some x) where
    pub taken_gone : entry (without_entry_name nodes d name) d name ≡ None
    taken_gone = ap (lookup (bytes_eq name)) taken_children ∙ taken_here name (children nodes d) (names.distinct d)

    pub taken_fewer : length (children (without_entry_name nodes d name) d) + 1 ≡ length (children nodes d)
    taken_fewer = ap (λ cs. length cs + 1) taken_children ∙ taken_one (bytes_eq name) (children nodes d) x led

    -- a name that is left resolved to the same node before, and not to x
    pub taken_from : (q : ℕ) (n : Name) (z : ℕ) → entry (without_entry_name nodes d name) q n ≡ Some z → (entry nodes q n ≡ Some z) × (z ≢ x)
    taken_from q n z found = elim (cases_eq q d) [
      | inl is ↦ elim (cases_name n name) [
        | inl same ↦
            let lacks : None ≡ Some z = sym taken_gone ∙ ap (entry (without_entry_name nodes d name) d) (sym same) ∙ ap (λ y. entry (without_entry_name nodes d name) y n) (sym is) ∙ found in
            absurd (cc)
        | inr other ↦ left_of (λ e. other)
      ]
      | inr differ ↦ left_of (λ e. absurd (differ e))
    ]
      where
        left_of : ((q ≡ d) → (n ≢ name)) → (entry nodes q n ≡ Some z) × (z ≢ x)
        left_of apart =
            let was : entry nodes q n ≡ Some z = sym (taken_apart q n apart) ∙ found in
            (was, λ same. let one = names.once q d n name x (was ∙ ap (λ y. Some y) same) led in apart one.0 one.1)

    -- and each name that did not resolve to x is left
    pub taken_kept : (q : ℕ) (n : Name) (z : ℕ) → entry nodes q n ≡ Some z → (z ≢ x) → entry (without_entry_name nodes d name) q n ≡ Some z
    taken_kept q n z found differ =
        taken_apart q n (λ is same.
        let also : Some z ≡ Some x = sym found ∙ ap (entry nodes q) same ∙ ap (λ y. entry nodes y name) is ∙ led in
        differ (cc)) ∙ found
