-- The shown form of a name resolves to exactly its entry.
use Rattle.std.proofs.Common.{◌≡◌, ℕ, Bool, true, false, cond, [], ◌∷◌, Option, Some, None, is_some, inl, inr, refl, sym, ap, ◌∙◌}
use Rattle.std.specs.Str.{bytes_eq}
use Rattle.std.specs.Map.{lookup, lookup_entry}
use Rattle.std.proofs.lemmas.Bool.{cases_Bool, true≢false}
use Rattle.policy_ctx.specs.declared.policy.Context.{Context}
use Rattle.plain_tree.specs.Nodes.{Name, Children}
use Rattle.plain_tree.specs.NodesByNumber.{children, context_at, entry}
use Rattle.plain_tree.proofs.ChildLemmas.{same_name}
use Rattle.plain_tree.proofs.FoundLemmas.{found_passes, found_entry}
use Rattle.plain_tree.proofs.SealLemmas.{text_leads}
use Rattle.mount_model.specs.PlainMount.{PlainMount}
use Rattle.mount_model.specs.Sealed.{texts}
use Rattle.mount_model.specs.States.{is_keyed, shown, visible_name_under}
use Rattle.mount_model.specs.Walk.{visible_entry}
use Rattle.mount_model.specs.WellFormed.{IsWellFormed}
use Rattle.mount_model.specs.NameLaws.{PoliciesAreInherited, TextsDiffer}

pub inherited : PoliciesAreInherited
inherited m d name x c well has led = well.nodes.sealed.inherits d name x c has led

pub apart : TextsDiffer
apart m d a b x y c well has one two same = well.nodes.sealed.apart d a b x y c has one two same

-- ---- of one directory two names are not shown alike

shown_apart : (m : PlainMount) (d : ℕ) (a b : Name) (x y : ℕ) → IsWellFormed m → entry m.nodes d a ≡ Some x → entry m.nodes d b ≡ Some y
    → (o : Option Context) → context_at m.nodes d ≡ o → visible_name_under m d a o ≡ visible_name_under m d b o → a ≡ b
shown_apart m d a b x y well one two None has same = same
shown_apart m d a b x y well one two (Some c) has same = elim (cases_Bool (is_keyed m d)) [
  | inl keyed ↦ sym (plain a keyed) ∙ same ∙ plain b keyed
  | inr locked ↦ apart m d a b x y c well has one two (sym (text a locked) ∙ same ∙ text b locked)
]
  where
    plain : (n : Name) → is_keyed m d ≡ true → cond (is_keyed m d) n (texts m.raws d c n) ≡ n
    plain n is = ap (λ k. cond k n (texts m.raws d c n)) is

    text : (n : Name) → is_keyed m d ≡ false → cond (is_keyed m d) n (texts m.raws d c n) ≡ texts m.raws d c n
    text n is = ap (λ k. cond k n (texts m.raws d c n)) is

some_of : {A : Type 0} (o : Option A) → is_some o ≡ true → (x : A) × (o ≡ Some x)
some_of None is = absurd (true≢false (sym is))
some_of (Some x) is = (x, refl)

same_some : (x y : ℕ) → Some x ≡ Some y → x ≡ y
same_some x y is = cc

-- a search for a value and one for an entry find together
found_too : (test : Name → Bool) (cs : Children) (x : ℕ) → lookup test cs ≡ Some x → is_some (lookup_entry test cs) ≡ true
found_too test [] x is = absurd (cc)
found_too test (c ∷ cs) x is = elim (test c.0) as (λ b. cond b (Some c.1) (lookup test cs) ≡ Some x → is_some (cond b (Some c) (lookup_entry test cs)) ≡ true) [
  | true ↦ λ _. refl
  | false ↦ λ rest. found_too test cs x rest
] is

module _ (m : PlainMount) (d : ℕ) where
  shows : Name → Name → Bool
  shows part name = bytes_eq part (shown m d name)

  pub only_shown : (part : Name) (e : Name × ℕ) → visible_entry m d part ≡ Some e → (entry m.nodes d e.0 ≡ Some e.1) × (shown m d e.0 ≡ part)
  unfolding shows
  only_shown part e is = (
    found_entry m.nodes d (shows part) e is,
    sym (same_name part (shown m d e.0) (found_passes (shows part) (children m.nodes d) e is)),
  )

  pub shown_leads : (name : Name) (x : ℕ) → IsWellFormed m → entry m.nodes d name ≡ Some x → visible_entry m d (shown m d name) ≡ Some (name, x)
  unfolding shows
  shown_leads name x well led =
      let value : lookup (shows (shown m d name)) (children m.nodes d) ≡ Some x
      = text_leads (shown m d) (children m.nodes d) name x led
      (λ a there same.
      let y = some_of (entry m.nodes d a) there in
      shown_apart m d name a x y.0 well led y.1 (context_at m.nodes d) refl same) in
      let e = some_of (visible_entry m d (shown m d name)) (found_too (shows (shown m d name)) (children m.nodes d) x value) in
      let both = only_shown (shown m d name) e.0 e.1 in
      let same : e.0.0 ≡ name = shown_apart m d e.0.0 name e.0.1 x well both.0 led (context_at m.nodes d) refl both.1 in
      let node : e.0.1 ≡ x = same_some e.0.1 x (sym both.0 ∙ ap (entry m.nodes d) same ∙ led) in
      e.1 ∙ (λ i. Some (same i, node i))
