-- What a search by any test of names finds is stored under some name.
use Rattle.std.proofs.Common.{◌≡◌, ℕ, Bool, true, false, cond, [], ◌∷◌, Option, Some, None, option_map, bytes_eq, inl, inr, refl, sym, ap, ◌∙◌}
use Rattle.std.proofs.lemmas.Bool.{cases_Bool}
use Rattle.std.specs.Map.{lookup, lookup_entry}
use Rattle.plain_tree.specs.Nodes.{Name, Children, Nodes}
use Rattle.plain_tree.specs.NodesByNumber.{children, entry}
use Rattle.plain_tree.proofs.ChildLemmas.{itself, same_name}

module _ (test : Name → Bool) where
  -- the entry that is found passes the test
  pub found_passes : (cs : Children) (e : Name × ℕ) → lookup_entry test cs ≡ Some e → test e.0 ≡ true
  found_passes [] e found = absurd (cc)
  found_passes (c ∷ cs) e found =
      elim (cases_Bool (test c.0)) [
        | inl is ↦
            let here : Some c ≡ Some e = sym (ap (λ b. cond b (Some c) (lookup_entry test cs)) is) ∙ found in
            let same : c ≡ e = some_same c e here in
            ap (λ (p : Name × ℕ). test p.0) (sym same) ∙ is
        | inr other ↦ found_passes cs e (sym (ap (λ b. cond b (Some c) (lookup_entry test cs)) other) ∙ found)
      ]
    where
      some_same : (a b : Name × ℕ) → Some a ≡ Some b → a ≡ b
      some_same a b is = cc

  found_under : (cs : Children) (e : Name × ℕ) → lookup_entry test cs ≡ Some e → lookup (bytes_eq e.0) cs ≡ Some e.1
  found_under [] e found = absurd (cc)
  found_under (c ∷ cs) e found =
      elim (cases_Bool (test c.0)) [
        | inl is ↦
            let here : Some c ≡ Some e = sym (ap (λ b. cond b (Some c) (lookup_entry test cs)) is) ∙ found in
            let same : c ≡ e = some_same c e here in
            ap (λ (p : Name × ℕ). lookup (bytes_eq p.0) (c ∷ cs)) (sym same)
            ∙ ap (λ b. cond b (Some c.1) (lookup (bytes_eq c.0) cs)) (itself c.0)
            ∙ ap (λ (p : Name × ℕ). Some p.1) same
        | inr other ↦
            let rest : lookup_entry test cs ≡ Some e = sym (ap (λ b. cond b (Some c) (lookup_entry test cs)) other) ∙ found in
            elim (cases_Bool (bytes_eq e.0 c.0)) [
              | inl is ↦
                  let passes : test c.0 ≡ true = ap test (sym (same_name e.0 c.0 is)) ∙ found_passes cs e rest in
                  absurd (cc)
              | inr differs ↦ ap (λ b. cond b (Some c.1) (lookup (bytes_eq e.0) cs)) differs ∙ found_under cs e rest
            ]
      ]
    where
      some_same : (a b : Name × ℕ) → Some a ≡ Some b → a ≡ b
      some_same a b is = cc

-- an entry that any test of names finds is the one under its name
pub found_entry : (nodes : Nodes) (d : ℕ) (test : Name → Bool) (e : Name × ℕ) → lookup_entry test (children nodes d) ≡ Some e → entry nodes d e.0 ≡ Some e.1
found_entry nodes d test e found = found_under test (children nodes d) e found

-- a value that any test finds is stored under some name
pub found_named : (nodes : Nodes) (d : ℕ) (test : Name → Bool) (x : ℕ) → lookup test (children nodes d) ≡ Some x → (name : Name) × (entry nodes d name ≡ Some x) × (test name ≡ true)
found_named nodes d test x found = by_case (lookup_entry test (children nodes d)) refl
  where
    alike : (cs : Children) → lookup test cs ≡ option_map (λ (e : Name × ℕ). e.1) (lookup_entry test cs)
    alike [] = refl
    alike (c ∷ cs) = elim (test c.0) as (λ b. cond b (Some c.1) (lookup test cs) ≡ option_map (λ (e : Name × ℕ). e.1) (cond b (Some c) (lookup_entry test cs))) [
      | true ↦ refl
      | false ↦ alike cs
    ]

    by_case : (o : Option (Name × ℕ)) → lookup_entry test (children nodes d) ≡ o → (name : Name) × (entry nodes d name ≡ Some x) × (test name ≡ true)
    by_case None is = let lacks : None ≡ Some x = sym (alike (children nodes d) ∙ ap (option_map (λ (e : Name × ℕ). e.1)) is) ∙ found in absurd (cc)
    by_case (Some e) is =
        let same : Some e.1 ≡ Some x = sym (alike (children nodes d) ∙ ap (option_map (λ (e : Name × ℕ). e.1)) is) ∙ found in
        (e.0, found_entry nodes d test e is ∙ same, found_passes test (children nodes d) e is)
