-- A tree in which a node gets another name, in the same directory or in another one.
use Rattle.std.proofs.Common.{◌≡◌, ◌≢◌, ℕ, ◌+◌, ◌≤◌, true, false, [], length, Option, Some, None, is_some, inl, inr, ◌⊎◌, refl, sym, ap, subst, ◌∙◌, arith}
use Rattle.std.proofs.lemmas.Bool.{cases_eq}
use Rattle.number_map.specs.Numbered.{get, len}
use Rattle.number_map.proofs.NumberedLemmas.{len_changed}
use Rattle.plain_tree.specs.Nodes.{Name, Nodes}
use Rattle.plain_tree.specs.BodyChanges.{with_child, without_child}
use Rattle.plain_tree.specs.NodesByNumber.{children, context_at, is_named, is_dir_at, entry}
use Rattle.plain_tree.specs.Changes.{on_children, without_entry_name, moved}
use Rattle.plain_tree.specs.Tree.{IsReached, IsTree}
use Rattle.plain_tree.specs.Laws.{CanBeMoved}
use Rattle.mount_limits.specs.declared.TheConstants.{MAX_NODES, MAX_CHILDREN}
use Rattle.plain_tree.proofs.EditLemmas.{edit_context, edit_named, edit_dir, edit_there, edit_others, taken_names, taken_count, taken_fewer, taken_from, taken_kept, put_here, put_kept, put_from, put_apart_names, put_count}
use Rattle.plain_tree.proofs.ReachedLemmas.{childless, reached_named, reached_anyhow, reached_outside, reached_again}

module _ (nodes : Nodes) (d : ℕ) (name : Name) (to : ℕ) (new_name : Name) (x : ℕ) where
  abbrev after : Nodes
  after = moved nodes d name to new_name x

  abbrev taken : Nodes
  taken = without_entry_name nodes d name

  pub moved_context : (q : ℕ) → context_at after q ≡ context_at nodes q
  moved_context q = edit_context taken to (with_child new_name x) q ∙ edit_context nodes d (without_child name) q

  pub moved_named : (q : ℕ) → is_named after q ≡ is_named nodes q
  moved_named q = edit_named taken to (with_child new_name x) q ∙ edit_named nodes d (without_child name) q

  pub moved_dir : (q : ℕ) → is_dir_at after q ≡ is_dir_at nodes q
  moved_dir q = edit_dir taken to (with_child new_name x) q ∙ edit_dir nodes d (without_child name) q

  pub moved_there : (q : ℕ) → is_some (get after q) ≡ is_some (get nodes q)
  moved_there q = edit_there taken to (with_child new_name x) q ∙ edit_there nodes d (without_child name) q

  pub moved_len : len after ≡ len nodes
  moved_len = len_changed taken to (on_children (with_child new_name x)) ∙ len_changed nodes d (on_children (without_child name))

  module _ (next : ℕ) (tree : IsTree nodes next) (can : CanBeMoved nodes d name to new_name x) where
    dir : is_dir_at taken to ≡ true
    dir = edit_dir nodes d (without_child name) to ∙ can.dir

    free : entry taken to new_name ≡ None
    free = by_case (entry taken to new_name) refl
      where
        by_case : (o : Option ℕ) → entry taken to new_name ≡ o → o ≡ None
        by_case None is = refl
        by_case (Some z) is =
            let was : entry nodes to new_name ≡ Some z = (taken_from nodes d name x tree.names can.led to new_name z is).0 in
            let lacks : entry nodes to new_name ≡ None = can.free in
            absurd (cc)

    -- a name that is there was there and doesn't resolve to x, or is the new one
    pub moved_from : (q : ℕ) (n : Name) (z : ℕ) → entry after q n ≡ Some z → ((entry nodes q n ≡ Some z) × (z ≢ x)) ⊎ ((q ≡ to) × (n ≡ new_name) × (z ≡ x))
    moved_from q n z found = elim (put_from taken to new_name x dir free q n z found) [
      | inl was ↦ inl (taken_from nodes d name x tree.names can.led q n z was)
      | inr here ↦ inr here
    ]

    pub moved_kept : (q : ℕ) (n : Name) (z : ℕ) → entry nodes q n ≡ Some z → (z ≢ x) → entry after q n ≡ Some z
    moved_kept q n z found differ = put_kept taken to new_name x dir free q n z (taken_kept nodes d name x tree.names can.led q n z found differ)

    pub moved_here : entry after to new_name ≡ Some x
    moved_here = put_here taken to new_name x dir free

    named_x : is_named nodes x ≡ true
    named_x = (tree.names.leads d name x can.led).1

    leads_after : (q : ℕ) (n : Name) (z : ℕ) → entry after q n ≡ Some z → (z ≢ 0) × (is_named after z ≡ true)
    leads_after q n z found = elim (moved_from q n z found) [
      | inl was ↦ let old = tree.names.leads q n z was.0 in (old.0, moved_named z ∙ old.1)
      | inr here ↦
          let old = tree.names.leads d name x can.led in
          ((λ zero. old.0 (sym here.2 ∙ zero)), moved_named z ∙ ap (is_named nodes) here.2 ∙ old.1)
    ]

    once_after : (q e : ℕ) (a b : Name) (z : ℕ) → entry after q a ≡ Some z → entry after e b ≡ Some z → (q ≡ e) × (a ≡ b)
    once_after q e a b z one two = elim (moved_from q a z one) [
      | inl was ↦ elim (moved_from e b z two) [
        | inl also ↦ tree.names.once q e a b z was.0 also.0
        | inr here ↦ absurd (was.1 here.2)
      ]
      | inr here ↦ elim (moved_from e b z two) [
        | inl also ↦ absurd (also.1 here.2)
        | inr there ↦ (here.0 ∙ sym there.0, here.1 ∙ sym there.1)
      ]
    ]

    nameless_after : (q : ℕ) → is_named after q ≡ false → children after q ≡ []
    nameless_after q none =
        let was : is_named nodes q ≡ false = sym (moved_named q) ∙ none in
        let apart : q ≢ to = λ same.
        let named : is_named nodes q ≡ true = ap (is_named nodes) same ∙ reached_named nodes tree.root tree.names (reached_anyhow nodes x can.reached) in
        absurd (cc) in
        let before : children nodes q ≡ [] = tree.names.nameless q was in
        edit_others taken to (with_child new_name x) q apart ∙ elim (cases_eq q d) [
          | inl same ↦ absurd (childless nodes q name x before (ap (λ y. entry nodes y name) same ∙ can.led))
          | inr differ ↦ edit_others nodes d (without_child name) q differ ∙ before
        ]

    -- x is reached by its new name, and each other node as before
    reached_x : IsReached after x
    reached_x = IsReached.step to new_name x moved_here (reached_outside nodes after x moved_kept can.reached)

    count_after : (q : ℕ) → length (children after q) ≤ MAX_CHILDREN
    count_after q = elim (cases_eq q to) [
      | inl is ↦ subst (λ y. length (children after y) ≤ MAX_CHILDREN) (sym is) here
      | inr differ ↦
          let fewer = taken_count nodes d name q in let few = tree.room.few_children q in
          subst (λ cs. length cs ≤ MAX_CHILDREN) (sym (edit_others taken to (with_child new_name x) q differ)) (omega arith)
    ]
      where
        here : length (children after to) ≤ MAX_CHILDREN
        here = elim (cases_eq to d) [
          | inl same ↦
              let one : length (children taken to) + 1 ≡ length (children nodes to)
              = subst (λ y. length (children taken y) + 1 ≡ length (children nodes y)) (sym same) (taken_fewer nodes d name x tree.names can.led) in
              let few = tree.room.few_children to in
              omega (arith, put_count taken to new_name x dir)
          | inr apart ↦
              let few = can.few_children apart in
              let fewer = taken_count nodes d name to in
              omega (arith, put_count taken to new_name x dir)
        ]

    pub moved_tree : IsTree (moved nodes d name to new_name x) next
    moved_tree = record {
      root = record {
        named = moved_named 0 ∙ tree.root.named;
        dir = moved_dir 0 ∙ tree.root.dir;
        plain = moved_context 0 ∙ tree.root.plain;
      };
      names = record {
        leads = leads_after;
        once = once_after;
        distinct = put_apart_names taken to new_name x dir free (taken_names nodes d name tree.names.distinct);
        nameless = nameless_after;
      };
      reached = λ q named. reached_again nodes after x moved_kept reached_x (tree.reached q (sym (moved_named q) ∙ named));
      room = record {
        below = λ q there. tree.room.below q (sym (moved_there q) ∙ there);
        few_nodes = subst (λ n. n ≤ MAX_NODES) (sym moved_len) tree.room.few_nodes;
        few_children = count_after;
      };
    }
