-- What is reached by names, before and after a change.
use Rattle.std.proofs.Common.{◌≡◌, ◌≢◌, ℕ, true, [], Some, None, inl, inr, sym, ap, subst, ◌∙◌}
use Rattle.std.proofs.lemmas.Bool.{cases_eq}
use Rattle.std.specs.Map.{lookup}
use Rattle.std.specs.Str.{bytes_eq}
use Rattle.plain_tree.specs.Nodes.{Name, Nodes}
use Rattle.plain_tree.specs.NodesByNumber.{children, is_named, entry}
use Rattle.plain_tree.specs.Tree.{IsReached, IsReachedWithout, HasRoot, HasNames}

-- in a node without entries no name resolves
pub childless : (nodes : Nodes) (d : ℕ) (name : Name) (x : ℕ) → children nodes d ≡ [] → entry nodes d name ≡ Some x → ⊥
childless nodes d name x none found =
    let lacks : None ≡ Some x = sym (ap (lookup (bytes_eq name)) none) ∙ found in absurd (cc)

-- what is reached is named
pub reached_named : (nodes : Nodes) → HasRoot nodes → HasNames nodes → {q : ℕ} → IsReached nodes q → is_named nodes q ≡ true
reached_named nodes root names IsReached.root = root.named
reached_named nodes root names (IsReached.step d name x found there) = (names.leads d name x found).1

-- what is reached without y is reached
pub reached_anyhow : (nodes : Nodes) (y : ℕ) → {q : ℕ} → IsReachedWithout nodes y q → IsReached nodes q
reached_anyhow nodes y IsReachedWithout.root = IsReached.root
reached_anyhow nodes y (IsReachedWithout.step d name x found differ there) = IsReached.step d name x found (reached_anyhow nodes y there)

module _ (before after : Nodes) where
  -- if each name is retained
  pub reached_kept : ((d : ℕ) (name : Name) (x : ℕ) → entry before d name ≡ Some x → entry after d name ≡ Some x) → {q : ℕ} → IsReached before q → IsReached after q
  reached_kept kept IsReached.root = IsReached.root
  reached_kept kept (IsReached.step d name x found there) = IsReached.step d name x (kept d name x found) (reached_kept kept there)

  module _ (y : ℕ) (kept : (d : ℕ) (name : Name) (x : ℕ) → entry before d name ≡ Some x → (x ≢ y) → entry after d name ≡ Some x) where
    -- if each name but those for y is retained
    pub reached_outside : {q : ℕ} → IsReachedWithout before y q → IsReached after q
    reached_outside IsReachedWithout.root = IsReached.root
    reached_outside (IsReachedWithout.step d name x found differ there) = IsReached.step d name x (kept d name x found differ) (reached_outside there)

    -- and no name resolves in y
    pub reached_beside : ((name : Name) (x : ℕ) → entry before y name ≡ Some x → ⊥) → {q : ℕ} → (q ≢ y) → IsReached before q → IsReached after q
    reached_beside nowhere differ IsReached.root = IsReached.root
    reached_beside nowhere differ (IsReached.step d name x found there) =
        IsReached.step d name x (kept d name x found differ)
        (reached_beside nowhere (λ same. nowhere name x (ap (λ e. entry before e name) (sym same) ∙ found)) there)

    -- or y is reached by another name
    pub reached_again : IsReached after y → {q : ℕ} → IsReached before q → IsReached after q
    reached_again there IsReached.root = IsReached.root
    reached_again there (IsReached.step d name x found before_x) = elim (cases_eq x y) [
      | inl same ↦ subst (IsReached after) (sym same) there
      | inr differ ↦ IsReached.step d name x (kept d name x found differ) (reached_again there before_x)
    ]
