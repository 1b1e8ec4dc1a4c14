-- A fact of every node, and of every name, after each edit and kind of change.
use Rattle.std.proofs.Common.{◌≡◌, ℕ, Bool, false, List, [], Option, Some, None, option_map, inl, inr, refl, sym, ap, subst, ◌∙◌}
use Rattle.std.proofs.lemmas.Bool.{cases_eq}
use Rattle.policy_ctx.specs.declared.policy.Context.{Context}
use Rattle.number_map.specs.Numbered.{get, insert, remove, changed}
use Rattle.number_map.proofs.NumberedLemmas.{insert_here, insert_other, remove_here, remove_other, changed_here, changed_other}
use Rattle.plain_tree.specs.Nodes.{Name, Children, Node, Nodes}
use Rattle.plain_tree.specs.BodyChanges.{with_child, without_child}
use Rattle.plain_tree.specs.NodesByNumber.{children, is_named, entry}
use Rattle.plain_tree.specs.Changes.{on_children, named_as, on_contents, with_context, with_name, without_entry_name, with_new_node, dropped, without_node, moved, written, with_node_context}
use Rattle.plain_tree.specs.Tree.{IsTree}
use Rattle.plain_tree.specs.Laws.{IsNew, CanBeMade, CanBeMoved}
use Rattle.plain_tree.specs.Facts.{EachNode, EachName}
use Rattle.plain_tree.proofs.MadeLemmas.{made_from}
use Rattle.plain_tree.proofs.DroppedLemmas.{dropped_from}
use Rattle.plain_tree.proofs.GoneLemmas.{gone_entry}
use Rattle.plain_tree.proofs.MovedLemmas.{moved_from}
use Rattle.plain_tree.proofs.EditedLemmas.{edited_entry, leaves_contents, leaves_context}

-- ---- of every node

module _ (P : ℕ → Node → Type 0) (nodes : Nodes) (each : EachNode P nodes) where
  pub each_changed : (k : ℕ) (f : Node → Node) → ((v : Node) → get nodes k ≡ Some v → P k v → P k (f v)) → EachNode P (changed nodes k f)
  each_changed k f keeps x v there = elim (cases_eq x k) [
    | inl is ↦
        let here : option_map f (get nodes k) ≡ Some v = sym (changed_here nodes k f) ∙ ap (get (changed nodes k f)) (sym is) ∙ there in
        subst (λ y. P y v) (sym is) (from_changed (get nodes k) refl here)
    | inr differ ↦ each x v (sym (changed_other nodes k f x differ) ∙ there)
  ]
    where
      from_changed : (o : Option Node) → get nodes k ≡ o → option_map f o ≡ Some v → P k v
      from_changed None is here = absurd (cc)
      from_changed (Some w) is here = let same : f w ≡ v = cc in subst (P k) same (keeps w is (each k w is))

  pub each_inserted : (k : ℕ) (w : Node) → P k w → EachNode P (insert nodes k w)
  each_inserted k w holds x v there = elim (cases_eq x k) [
    | inl is ↦
        let here : Some w ≡ Some v = sym (insert_here nodes k w) ∙ ap (get (insert nodes k w)) (sym is) ∙ there in
        let same : w ≡ v = cc in
        subst (λ y. P y v) (sym is) (subst (P k) same holds)
    | inr differ ↦ each x v (sym (insert_other nodes k w x differ) ∙ there)
  ]

  pub each_gone : (k : ℕ) → EachNode P (without_node nodes k)
  each_gone k x v there = elim (cases_eq x k) [
    | inl is ↦
        let none : None ≡ Some v = sym (remove_here nodes k) ∙ ap (get (remove nodes k)) (sym is) ∙ there in
        absurd (cc)
    | inr differ ↦ each x v (sym (remove_other nodes k x differ) ∙ there)
  ]

  pub each_written : (x : ℕ) (f : List ℕ → List ℕ) → ((v : Node) → get nodes x ≡ Some v → P x v → P x (on_contents f v)) → EachNode P (written nodes x f)
  each_written x f keeps = each_changed x (on_contents f) keeps

  pub each_encrypted : (x : ℕ) (context : Context) → ((v : Node) → get nodes x ≡ Some v → P x v → P x (with_context context v)) → EachNode P (with_node_context nodes x context)
  each_encrypted x context keeps = each_changed x (with_context context) keeps

-- a fact that doesn't look at entries and names
pub record IsOfBodies (P : ℕ → Node → Type 0) : Type 0 where
  pub children : (x : ℕ) (g : Children → Children) (v : Node) → P x v → P x (on_children g v)
  pub named : (x : ℕ) (named : Bool) (v : Node) → P x v → P x (named_as named v)

module _ (P : ℕ → Node → Type 0) (of : IsOfBodies P) (nodes : Nodes) (each : EachNode P nodes) where
  each_put : (d : ℕ) (name : Name) (x : ℕ) → EachNode P (with_name nodes d name x)
  each_put d name x = each_changed P nodes each d (on_children (with_child name x)) (λ v there. of.children d (with_child name x) v)

  each_taken : (d : ℕ) (name : Name) → EachNode P (without_entry_name nodes d name)
  each_taken d name = each_changed P nodes each d (on_children (without_child name)) (λ v there. of.children d (without_child name) v)

  pub each_made : (d : ℕ) (name : Name) (x : ℕ) (v : Node) → P x v → EachNode P (with_new_node nodes d name x v)
  each_made d name x v holds = each_inserted P (with_name nodes d name x) (each_put d name x) x v holds

  pub each_dropped : (d : ℕ) (name : Name) (x : ℕ) → EachNode P (dropped nodes d name x)
  each_dropped d name x = each_changed P (without_entry_name nodes d name) (each_taken d name) x (named_as false) (λ v there. of.named x false v)

  pub each_moved : (d : ℕ) (name : Name) (to : ℕ) (new_name : Name) (x : ℕ) → EachNode P (moved nodes d name to new_name x)
  each_moved d name to new_name x =
      each_changed P (without_entry_name nodes d name) (each_taken d name) to (on_children (with_child new_name x)) (λ v there. of.children to (with_child new_name x) v)

-- ---- of every name

module _ (P : Name → Type 0) (nodes : Nodes) (next : ℕ) (tree : IsTree nodes next) (each : EachName P nodes) where
  pub names_made : (d : ℕ) (name : Name) (v : Node) → CanBeMade nodes d name → IsNew v → P name → EachName P (with_new_node nodes d name next v)
  names_made d name v can new holds q n z found = elim (made_from nodes next d name v tree can new q n z found) [
    | inl was ↦ each q n z was
    | inr here ↦ subst P (sym here.1) holds
  ]

  pub names_dropped : (d : ℕ) (name : Name) (x : ℕ) → entry nodes d name ≡ Some x → children nodes x ≡ [] → EachName P (dropped nodes d name x)
  names_dropped d name x led none q n z found = each q n z (dropped_from nodes d name x next tree led none q n z found).0

  pub names_gone : (x : ℕ) → is_named nodes x ≡ false → EachName P (without_node nodes x)
  names_gone x nameless q n z found = each q n z (sym (gone_entry nodes next x tree nameless q n) ∙ found)

  pub names_moved : (d : ℕ) (name : Name) (to : ℕ) (new_name : Name) (x : ℕ) → CanBeMoved nodes d name to new_name x → P new_name → EachName P (moved nodes d name to new_name x)
  names_moved d name to new_name x can holds q n z found = elim (moved_from nodes d name to new_name x next tree can q n z found) [
    | inl was ↦ each q n z was.0
    | inr here ↦ subst P (sym here.1) holds
  ]

module _ (P : Name → Type 0) (nodes : Nodes) (each : EachName P nodes) where
  pub names_written : (x : ℕ) (f : List ℕ → List ℕ) → EachName P (written nodes x f)
  names_written x f q n z found = each q n z (sym (edited_entry nodes x (on_contents f) (leaves_contents f) q n) ∙ found)

  pub names_encrypted : (x : ℕ) (context : Context) → EachName P (with_node_context nodes x context)
  names_encrypted x context q n z found = each q n z (sym (edited_entry nodes x (with_context context) (leaves_context context) q n) ∙ found)
