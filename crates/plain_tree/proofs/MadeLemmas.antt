-- A tree with a new node and a name for it.
use Rattle.std.proofs.Common.{◌≡◌, ◌≢◌, ℕ, ◌+◌, ◌<◌, ◌≤◌, true, false, [], length, Option, Some, None, is_some, bytes_eq, inl, inr, ◌⊎◌, refl, sym, ap, subst, ◌∙◌, arith}
use Rattle.std.proofs.lemmas.Bool.{cases_eq}
use Rattle.std.specs.List.{IsDistinct}
use Rattle.std.specs.Map.{lookup, keys_of}
use Rattle.number_map.specs.Numbered.{get, len}
use Rattle.number_map.proofs.NumberedLemmas.{insert_here, insert_other, len_added, len_changed, changed_other}
use Rattle.plain_tree.specs.Nodes.{Name, Node, Nodes}
use Rattle.plain_tree.specs.BodyChanges.{with_child}
use Rattle.plain_tree.specs.NodesByNumber.{children_in, context_in, is_named_in, is_dir_in, children, is_named, is_dir_at, entry}
use Rattle.plain_tree.specs.Changes.{on_children, with_name, with_new_node}
use Rattle.plain_tree.specs.Tree.{IsReached, HasRoot, HasSpace, IsTree}
use Rattle.plain_tree.specs.Laws.{IsNew, CanBeMade}
use Rattle.mount_limits.specs.declared.TheConstants.{MAX_CHILDREN}
use Rattle.plain_tree.proofs.ReadLemmas.{read_inserted}
use Rattle.plain_tree.proofs.EditLemmas.{edit_context, edit_named, edit_dir, edit_there, edit_others, put_here, put_kept, put_from, put_apart_names, put_count}
use Rattle.plain_tree.proofs.ReachedLemmas.{reached_named, reached_kept}

-- a number that is not below next has no node
pub next_free : (nodes : Nodes) (next : ℕ) → HasSpace nodes next → get nodes next ≡ None
next_free nodes next room = by_case (get nodes next) refl
  where
    by_case : (o : Option Node) → get nodes next ≡ o → o ≡ None
    by_case None is = refl
    by_case (Some v) is = let below : next < next = room.below next (ap (λ y. is_some y) is) in absurd (omega arith)

pub there_from_dir : (nodes : Nodes) (d : ℕ) → is_dir_at nodes d ≡ true → is_some (get nodes d) ≡ true
there_from_dir nodes d dir = by_case (get nodes d) dir
  where
    by_case : (o : Option Node) → is_dir_in o ≡ true → is_some o ≡ true
    by_case None is = is
    by_case (Some v) is = refl

module _ (nodes : Nodes) (d : ℕ) (name : Name) (x : ℕ) (v : Node) (lacks : get nodes x ≡ None) (dir : is_dir_at nodes d ≡ true) where
  -- the new node is not the directory
  new_elsewhere : x ≢ d
  new_elsewhere same =
      let none : is_some (get nodes d) ≡ false = ap (λ y. is_some (get nodes y)) (sym same) ∙ ap (λ o. is_some o) lacks in
      let some : is_some (get nodes d) ≡ true = there_from_dir nodes d dir in
      absurd (cc)

  pub still_free : get (with_name nodes d name x) x ≡ None
  still_free = changed_other nodes d (on_children (with_child name x)) x new_elsewhere ∙ lacks

  -- what is read of each node, if the new one reads as none
  pub made_reads : {A : Type 0} (read : Option Node → A) → read (Some v) ≡ read None → (q : ℕ) → read (get (with_new_node nodes d name x v) q) ≡ read (get (with_name nodes d name x) q)
  made_reads read same q = read_inserted read (with_name nodes d name x) x v (same ∙ ap read (sym still_free)) q

  new_here : get (with_new_node nodes d name x v) x ≡ Some v
  new_here = insert_here (with_name nodes d name x) x v

  pub made_other : (q : ℕ) → (q ≢ x) → get (with_new_node nodes d name x v) q ≡ get (with_name nodes d name x) q
  made_other q differ = insert_other (with_name nodes d name x) x v q differ

module _ (nodes : Nodes) (next d : ℕ) (name : Name) (v : Node) (tree : IsTree nodes next) (can : CanBeMade nodes d name) (new : IsNew v) where
  abbrev after : Nodes
  after = with_new_node nodes d name next v

  abbrev put : Nodes
  put = with_name nodes d name next

  lacks : get nodes next ≡ None
  lacks = next_free nodes next tree.room

  children_after : (q : ℕ) → children after q ≡ children put q
  children_after = made_reads nodes d name next v lacks can.dir children_in new.empty

  entry_after : (q : ℕ) (n : Name) → entry after q n ≡ entry put q n
  entry_after q n = ap (lookup (bytes_eq n)) (children_after q)

  pub made_kept : (q : ℕ) (n : Name) (z : ℕ) → entry nodes q n ≡ Some z → entry after q n ≡ Some z
  made_kept q n z found = entry_after q n ∙ put_kept nodes d name next can.dir can.free q n z found

  -- a name resolves as before, or is the new one
  pub made_from : (q : ℕ) (n : Name) (z : ℕ) → entry after q n ≡ Some z → (entry nodes q n ≡ Some z) ⊎ ((q ≡ d) × (n ≡ name) × (z ≡ next))
  made_from q n z found = put_from nodes d name next can.dir can.free q n z (sym (entry_after q n) ∙ found)

  led_to : entry after d name ≡ Some next
  led_to = entry_after d name ∙ put_here nodes d name next can.dir can.free

  pub made_here : get after next ≡ Some v
  made_here = new_here nodes d name next v lacks can.dir

  named_here : is_named after next ≡ true
  named_here = ap is_named_in made_here ∙ new.named

  -- each other node as before
  pub made_before : {A : Type 0} (read : Option Node → A) → ((q : ℕ) → read (get put q) ≡ read (get nodes q)) → (q : ℕ) → (q ≢ next) → read (get after q) ≡ read (get nodes q)
  made_before read same q differ = ap read (made_other nodes d name next v lacks can.dir q differ) ∙ same q

  named_before : (q : ℕ) → (q ≢ next) → is_named after q ≡ is_named nodes q
  named_before = made_before is_named_in (edit_named nodes d (with_child name next))

  -- no name resolved to the new number
  pub made_unled : (q : ℕ) (n : Name) → entry nodes q n ≡ Some next → ⊥
  made_unled q n found =
      let named : is_named nodes next ≡ true = (tree.names.leads q n next found).1 in
      let none : is_named nodes next ≡ false = ap is_named_in lacks in
      absurd (cc)

  not_root : next ≢ 0
  not_root same =
      let dir : is_dir_at nodes next ≡ true = ap (is_dir_at nodes) same ∙ tree.root.dir in
      let none : is_dir_at nodes next ≡ false = ap is_dir_in lacks in
      absurd (cc)

  root_differs : 0 ≢ next
  root_differs same = not_root (sym same)

  root_after : HasRoot after
  root_after = record {
    named = named_before 0 root_differs ∙ tree.root.named;
    dir = made_before is_dir_in (edit_dir nodes d (with_child name next)) 0 root_differs ∙ tree.root.dir;
    plain = made_before context_in (edit_context nodes d (with_child name next)) 0 root_differs ∙ tree.root.plain;
  }

  leads_after : (q : ℕ) (n : Name) (z : ℕ) → entry after q n ≡ Some z → (z ≢ 0) × (is_named after z ≡ true)
  leads_after q n z found = elim (made_from q n z found) [
    | inl was ↦
        let old = tree.names.leads q n z was in
        (old.0, named_before z (λ same. made_unled q n (was ∙ ap (λ y. Some y) same)) ∙ old.1)
    | inr here ↦ ((λ zero. not_root (sym here.2 ∙ zero)), ap (is_named after) here.2 ∙ named_here)
  ]

  once_after : (q e : ℕ) (a b : Name) (z : ℕ) → entry after q a ≡ Some z → entry after e b ≡ Some z → (q ≡ e) × (a ≡ b)
  once_after q e a b z one two = elim (made_from q a z one) [
    | inl was ↦ elim (made_from e b z two) [
      | inl also ↦ tree.names.once q e a b z was also
      | inr here ↦ absurd (made_unled q a (was ∙ ap (λ y. Some y) here.2))
    ]
    | inr here ↦ elim (made_from e b z two) [
      | inl also ↦ absurd (made_unled e b (also ∙ ap (λ y. Some y) here.2))
      | inr there ↦ (here.0 ∙ sym there.0, here.1 ∙ sym there.1)
    ]
  ]

  distinct_after : (q : ℕ) → IsDistinct bytes_eq (keys_of (children after q))
  distinct_after q = subst (λ cs. IsDistinct bytes_eq (keys_of cs)) (sym (children_after q)) (put_apart_names nodes d name next can.dir can.free tree.names.distinct q)

  nameless_after : (q : ℕ) → is_named after q ≡ false → children after q ≡ []
  nameless_after q none =
      let differ : q ≢ next = λ same. let named : is_named after q ≡ true = ap (is_named after) same ∙ named_here in absurd (cc) in
      let was : is_named nodes q ≡ false = sym (named_before q differ) ∙ none in
      let apart : q ≢ d = λ same. let named : is_named nodes q ≡ true = ap (is_named nodes) same ∙ reached_named nodes tree.root tree.names can.reached in absurd (cc) in
      children_after q ∙ edit_others nodes d (with_child name next) q apart ∙ tree.names.nameless q was

  reached_after : (q : ℕ) → is_named after q ≡ true → IsReached after q
  reached_after q named = elim (cases_eq q next) [
    | inl is ↦ subst (IsReached after) (sym is) (IsReached.step d name next led_to (reached_kept nodes after made_kept can.reached))
    | inr differ ↦ reached_kept nodes after made_kept (tree.reached q (sym (named_before q differ) ∙ named))
  ]

  below_after : (q : ℕ) → is_some (get after q) ≡ true → q < next + 1
  below_after q there = elim (cases_eq q next) [
    | inl is ↦ omega (arith, is)
    | inr differ ↦
        let was : q < next = tree.room.below q (sym (made_before (λ o. is_some o) (edit_there nodes d (with_child name next)) q differ) ∙ there) in
        omega arith
  ]

  len_after : len after ≡ len nodes + 1
  len_after = len_added put next v (still_free nodes d name next v lacks can.dir) ∙ ap (λ n. n + 1) (len_changed nodes d (on_children (with_child name next)))

  count_after : (q : ℕ) → length (children after q) ≤ MAX_CHILDREN
  count_after q = elim (cases_eq q d) [
    | inl is ↦
        let here : length (children put d) ≤ MAX_CHILDREN = let few = can.few_children in omega (arith, put_count nodes d name next can.dir) in
        subst (λ cs. length cs ≤ MAX_CHILDREN) (sym (children_after q ∙ ap (children put) is)) here
    | inr differ ↦
        subst (λ cs. length cs ≤ MAX_CHILDREN) (sym (children_after q ∙ edit_others nodes d (with_child name next) q differ)) (tree.room.few_children q)
  ]

  pub made_tree : IsTree (with_new_node nodes d name next v) (next + 1)
  made_tree = record {
    root = root_after;
    names = record { leads = leads_after; once = once_after; distinct = distinct_after; nameless = nameless_after };
    reached = reached_after;
    room = record { below = below_after; few_nodes = let few = can.few_nodes in omega (arith, len_after); few_children = count_after };
  }
