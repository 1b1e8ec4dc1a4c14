-- What is read of nodes after each edit of them.
use Rattle.std.proofs.Common.{◌≡◌, ℕ, Option, Some, None, option_map, inl, inr, refl, sym, ap, ◌∙◌}
use Rattle.std.proofs.lemmas.Bool.{cases_eq}
use Rattle.number_map.specs.Numbered.{get, insert, remove, changed}
use Rattle.number_map.proofs.NumberedLemmas.{insert_here, insert_other, remove_here, remove_other, changed_here, changed_other}
use Rattle.plain_tree.specs.Nodes.{Node, Nodes}

module _ {A : Type 0} (read : Option Node → A) (nodes : Nodes) where
  by_case : (f : Node → Node) (o : Option Node) → ((v : Node) → read (Some (f v)) ≡ read (Some v)) → read (option_map f o) ≡ read o
  by_case f None same = refl
  by_case f (Some v) same = same v

  -- what a change of a node leaves of it
  pub read_changed : (k : ℕ) (f : Node → Node) → ((v : Node) → read (Some (f v)) ≡ read (Some v)) → (x : ℕ) → read (get (changed nodes k f) x) ≡ read (get nodes x)
  read_changed k f same x = elim (cases_eq x k) [
    | inl is ↦
        ap (λ y. read (get (changed nodes k f) y)) is ∙ ap read (changed_here nodes k f)
        ∙ by_case f (get nodes k) same ∙ ap (λ y. read (get nodes y)) (sym is)
    | inr differ ↦ ap read (changed_other nodes k f x differ)
  ]

  -- a node whose number had none
  pub read_inserted : (k : ℕ) (v : Node) → read (Some v) ≡ read (get nodes k) → (x : ℕ) → read (get (insert nodes k v) x) ≡ read (get nodes x)
  read_inserted k v same x = elim (cases_eq x k) [
    | inl is ↦
        ap (λ y. read (get (insert nodes k v) y)) is ∙ ap read (insert_here nodes k v)
        ∙ same ∙ ap (λ y. read (get nodes y)) (sym is)
    | inr differ ↦ ap read (insert_other nodes k v x differ)
  ]

  -- a node that goes
  pub read_removed : (k : ℕ) → read None ≡ read (get nodes k) → (x : ℕ) → read (get (remove nodes k) x) ≡ read (get nodes x)
  read_removed k same x = elim (cases_eq x k) [
    | inl is ↦
        ap (λ y. read (get (remove nodes k) y)) is ∙ ap read (remove_here nodes k)
        ∙ same ∙ ap (λ y. read (get nodes y)) (sym is)
    | inr differ ↦ ap read (remove_other nodes k x differ)
  ]

-- what holds of a node after a change of it, if there is one
pub changed_there : (nodes : Nodes) (k : ℕ) (f : Node → Node) (v : Node) → get nodes k ≡ Some v → get (changed nodes k f) k ≡ Some (f v)
changed_there nodes k f v there = changed_here nodes k f ∙ ap (option_map f) there
