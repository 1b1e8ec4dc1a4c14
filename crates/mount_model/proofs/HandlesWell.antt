-- Handles stay well formed: after each kind of change of the nodes, after one is opened, and after one is
-- closed.
use Rattle.std.proofs.Common.{◌≡◌, ◌≢◌, ℕ, Bool, true, false, cond, not, ◌&&◌, List, Option, is_some, inl, inr, refl, sym, ap, ◌∙◌}
use Rattle.std.proofs.lemmas.Bool.{cases_eq, and_parts}
use Rattle.policy_ctx.specs.declared.policy.Context.{Context}
use Rattle.number_map.specs.Numbered.{NumberedValues, get}
use Rattle.number_map.proofs.NumberedLemmas.{remove_here, remove_other}
use Rattle.plain_tree.specs.Nodes.{Name, Node, Nodes}
use Rattle.plain_tree.specs.BodyChanges.{with_child}
use Rattle.plain_tree.specs.NodesByNumber.{is_named_in, is_named}
use Rattle.plain_tree.specs.Changes.{on_contents, with_context, with_name, with_new_node, dropped, without_node, moved, written, with_node_context}
use Rattle.plain_tree.specs.Tree.{IsTree}
use Rattle.plain_tree.specs.Laws.{IsNew, CanBeMade}
use Rattle.plain_tree.proofs.EditLemmas.{edit_named, edit_there}
use Rattle.plain_tree.proofs.MadeLemmas.{made_before, made_here, next_free}
use Rattle.plain_tree.proofs.DroppedLemmas.{dropped_there, dropped_others}
use Rattle.plain_tree.proofs.MovedLemmas.{moved_there, moved_named}
use Rattle.plain_tree.proofs.EditedLemmas.{edited_there, edited_named, leaves_contents, leaves_context}
use Rattle.mount_model.specs.PlainMount.{HandleList}
use Rattle.mount_model.specs.OpenHandles.{has_handle}
use Rattle.mount_model.specs.OpenAnswers.{is_link_at}
use Rattle.mount_model.specs.SoundHandles.{is_openable, HasHandles}
use Rattle.mount_model.proofs.NodeParts.{link_in, link_edited, link_dropped, link_moved, link_written, link_encrypted}

unfoldable pub openable_in : Option Node → Bool
openable_in o = is_some o && not (link_in o)

-- ---- handles remain well formed after the nodes change

module _ (nodes : Nodes) (handles : HandleList) (opened : NumberedValues ℕ) (well : HasHandles nodes handles opened) where
  -- requirements on the nodes after a change
  pub on_after : (after : Nodes) → ((n : ℕ) → has_handle handles n ≡ true → is_openable after n ≡ is_openable nodes n)
      → ((n : ℕ) → is_some (get after n) ≡ true → is_named after n ≡ false → has_handle handles n ≡ true) → HasHandles after handles opened
  on_after after same nameless = record {
    on = λ n held. same n held ∙ well.on n held;
    nameless = nameless;
    numbered = well.numbered;
    distinct = well.distinct;
    few = well.few;
    few_opens = well.few_opens;
  }

  there_open : (n : ℕ) → has_handle handles n ≡ true → is_some (get nodes n) ≡ true
  there_open n held = (and_parts (is_some (get nodes n)) (not (is_link_at nodes n)) (well.on n held)).0

  -- the nodes are there as before, and named as before
  pub same_after : (after : Nodes) → ((n : ℕ) → is_some (get after n) ≡ is_some (get nodes n)) → ((n : ℕ) → is_link_at after n ≡ is_link_at nodes n)
      → ((n : ℕ) → is_named after n ≡ is_named nodes n) → HasHandles after handles opened
  same_after after there link named =
      on_after after (λ n _ k. there n k && not (link n k)) (λ n is none. well.nameless n (sym (there n) ∙ is) (sym (named n) ∙ none))

  pub moved_open : (d : ℕ) (name : Name) (to : ℕ) (new_name : Name) (x : ℕ) → HasHandles (moved nodes d name to new_name x) handles opened
  moved_open d name to new_name x =
      same_after (moved nodes d name to new_name x) (moved_there nodes d name to new_name x) (link_moved nodes d name to new_name x) (moved_named nodes d name to new_name x)

  pub written_open : (x : ℕ) (f : List ℕ → List ℕ) → HasHandles (written nodes x f) handles opened
  written_open x f =
      same_after (written nodes x f) (edited_there nodes x (on_contents f) (leaves_contents f)) (link_written nodes x f)
      (edited_named nodes x (on_contents f) (leaves_contents f))

  pub encrypted_open : (x : ℕ) (context : Context) → HasHandles (with_node_context nodes x context) handles opened
  encrypted_open x context =
      same_after (with_node_context nodes x context) (edited_there nodes x (with_context context) (leaves_context context)) (link_encrypted nodes x context)
      (edited_named nodes x (with_context context) (leaves_context context))

  module _ (next d : ℕ) (name : Name) (v : Node) (tree : IsTree nodes next) (can : CanBeMade nodes d name) (new : IsNew v) where
    abbrev before_made : {A : Type 0} (read : Option Node → A) → ((q : ℕ) → read (get (with_name nodes d name next) q) ≡ read (get nodes q)) → (q : ℕ) → (q ≢ next) → read (get (with_new_node nodes d name next v) q) ≡ read (get nodes q)
    before_made {A} read = made_before nodes next d name v tree can new read

    not_new : (n : ℕ) → has_handle handles n ≡ true → (n ≢ next)
    not_new n held same =
        let some : is_some (get nodes n) ≡ true = there_open n held in
        let none : is_some (get nodes n) ≡ false = ap (λ y. is_some (get nodes y)) same ∙ ap (λ o. is_some o) (next_free nodes next tree.room) in
        absurd (cc)

    openable_put : (q : ℕ) → openable_in (get (with_name nodes d name next) q) ≡ openable_in (get nodes q)
    unfolding openable_in
    openable_put q k = edit_there nodes d (with_child name next) q k && not (link_edited nodes d (with_child name next) q k)

    pub made_open : HasHandles (with_new_node nodes d name next v) handles opened
    unfolding openable_in
    made_open = on_after (with_new_node nodes d name next v)
        (λ n held. before_made openable_in openable_put n (not_new n held))
        (λ n there none.
        let differ : n ≢ next = λ same.
        let named : is_named (with_new_node nodes d name next v) n ≡ true
        = ap (is_named (with_new_node nodes d name next v)) same ∙ ap is_named_in (made_here nodes next d name v tree can new) ∙ new.named in
        absurd (cc) in
        well.nameless n
        (sym (before_made (λ o. is_some o) (edit_there nodes d (with_child name next)) n differ) ∙ there)
        (sym (before_made is_named_in (edit_named nodes d (with_child name next)) n differ) ∙ none))

  -- a node that loses its name: it remains if a handle is on it, else it is removed
  module _ (d : ℕ) (name : Name) (x : ℕ) where
    abbrev unnamed : Nodes
    unnamed = dropped nodes d name x

    same_openable : (n : ℕ) → is_openable unnamed n ≡ is_openable nodes n
    same_openable n k = dropped_there nodes d name x n k && not (link_dropped nodes d name x n k)

    pub dropped_open : has_handle handles x ≡ true → HasHandles unnamed handles opened
    dropped_open held = on_after unnamed (λ n _. same_openable n) (λ n there none. elim (cases_eq n x) [
      | inl is ↦ ap (has_handle handles) is ∙ held
      | inr differ ↦ well.nameless n (sym (dropped_there nodes d name x n) ∙ there) (sym (dropped_others nodes d name x n differ) ∙ none)
    ])

    pub dropped_gone_open : has_handle handles x ≡ false → HasHandles (without_node unnamed x) handles opened
    unfolding openable_in
    dropped_gone_open free = on_after (without_node unnamed x)
        (λ n held.
        let differ : n ≢ x = λ same. let none : has_handle handles n ≡ false = ap (has_handle handles) same ∙ free in absurd (cc) in
        ap openable_in (remove_other unnamed x n differ) ∙ same_openable n)
        (λ n there none. elim (cases_eq n x) [
          | inl is ↦ let lacks : is_some (get (without_node unnamed x) n) ≡ false = ap (λ y. is_some (get (without_node unnamed x) y)) is ∙ ap (λ o. is_some o) (remove_here unnamed x) in absurd (cc)
          | inr differ ↦
              let same : get (without_node unnamed x) n ≡ get unnamed n = remove_other unnamed x n differ in
              well.nameless n (sym (ap (λ o. is_some o) same ∙ dropped_there nodes d name x n) ∙ there) (sym (ap is_named_in same ∙ dropped_others nodes d name x n differ) ∙ none)
        ])

    pub left_open : HasHandles (cond (has_handle handles x) unnamed (without_node unnamed x)) handles opened
    left_open = cond_case (has_handle handles x) refl
      where
        cond_case : (b : Bool) → has_handle handles x ≡ b → HasHandles (cond b unnamed (without_node unnamed x)) handles opened
        cond_case true held = dropped_open held
        cond_case false free = dropped_gone_open free
