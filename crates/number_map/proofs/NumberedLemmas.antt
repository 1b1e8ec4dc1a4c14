-- The laws of finite maps by number: what each change leaves at the number and elsewhere, lengths,
-- maps that are one, and the agreement of two maps under a function of the values.
use Rattle.std.proofs.Common.{◌≡◌, ◌≢◌, ℕ, ◌+◌, ◌-◌, cond, Option, Some, None, is_some, inl, inr, refl, sym, ap, ◌∙◌, option_map}
use Rattle.std.proofs.lemmas.Bool.{cases_eq}
use Rattle.std.specs.Cmp.{nat_cmp_total}
use Rattle.std.specs.FinMap.{get-insert, get-remove, len-insert, len-remove, same_map, nat_cmp-IsAntisymmetric}
use Rattle.number_map.specs.Numbered.{NumberedValues, get, insert, remove, len, changed, changed_to, AgreesUnder}
use Rattle.number_map.proofs.NumberTests.{tied, untied}

module _ {V : Type 0} where
  -- maps with the same value at each number are equal
  pub same_numbered : (m n : NumberedValues V) → ((q : ℕ) → get m q ≡ get n q) → m ≡ n
  same_numbered = same_map nat_cmp_total nat_cmp-IsAntisymmetric

  pub insert_here : (m : NumberedValues V) (k : ℕ) (v : V) → get (insert m k v) k ≡ Some v
  insert_here m k v = get-insert nat_cmp_total m k v k ∙ ap (λ b. cond b (Some v) (get m k)) (tied k k refl)

  pub insert_other : (m : NumberedValues V) (k : ℕ) (v : V) (q : ℕ) → (q ≢ k) → get (insert m k v) q ≡ get m q
  insert_other m k v q differ = get-insert nat_cmp_total m k v q ∙ ap (λ b. cond b (Some v) (get m q)) (untied q k differ)

  pub remove_here : (m : NumberedValues V) (k : ℕ) → get (remove m k) k ≡ None
  remove_here m k = get-remove nat_cmp_total m k k ∙ ap (λ b. cond b None (get m k)) (tied k k refl)

  pub remove_other : (m : NumberedValues V) (k q : ℕ) → (q ≢ k) → get (remove m k) q ≡ get m q
  remove_other m k q differ = get-remove nat_cmp_total m k q ∙ ap (λ b. cond b None (get m q)) (untied q k differ)

  -- `changed` if the map has a value, and if it has none
  pub changed_Some : (m : NumberedValues V) (k : ℕ) (f : V → V) (v : V) → get m k ≡ Some v → changed m k f ≡ insert m k (f v)
  unfolding changed
  changed_Some m k f v has = ap (changed_to f m k) has

  pub changed_None : (m : NumberedValues V) (k : ℕ) (f : V → V) → get m k ≡ None → changed m k f ≡ m
  unfolding changed
  changed_None m k f lacks = ap (changed_to f m k) lacks

  here_by_case : (m : NumberedValues V) (k : ℕ) (f : V → V) (o : Option V) → get m k ≡ o → get (changed m k f) k ≡ option_map f o
  here_by_case m k f None is = ap (λ x. get x k) (changed_None m k f is) ∙ is
  here_by_case m k f (Some v) is = ap (λ x. get x k) (changed_Some m k f v is) ∙ insert_here m k (f v)

  pub changed_here : (m : NumberedValues V) (k : ℕ) (f : V → V) → get (changed m k f) k ≡ option_map f (get m k)
  changed_here m k f = here_by_case m k f (get m k) refl

  other_by_case : (m : NumberedValues V) (k : ℕ) (f : V → V) (q : ℕ) (o : Option V) → get m k ≡ o → (q ≢ k) → get (changed m k f) q ≡ get m q
  other_by_case m k f q None is differ = ap (λ x. get x q) (changed_None m k f is)
  other_by_case m k f q (Some v) is differ = ap (λ x. get x q) (changed_Some m k f v is) ∙ insert_other m k (f v) q differ

  pub changed_other : (m : NumberedValues V) (k : ℕ) (f : V → V) (q : ℕ) → (q ≢ k) → get (changed m k f) q ≡ get m q
  changed_other m k f q differ = other_by_case m k f q (get m k) refl differ

  -- how many numbers have a value after each change
  pub len_added : (m : NumberedValues V) (k : ℕ) (v : V) → get m k ≡ None → len (insert m k v) ≡ len m + 1
  len_added m k v lacks = len-insert nat_cmp_total m k v ∙ ap (λ o. cond (is_some o) (len m) (len m + 1)) lacks

  pub len_replaced : (m : NumberedValues V) (k : ℕ) (v old : V) → get m k ≡ Some old → len (insert m k v) ≡ len m
  len_replaced m k v old has = len-insert nat_cmp_total m k v ∙ ap (λ o. cond (is_some o) (len m) (len m + 1)) has

  pub len_removed : (m : NumberedValues V) (k : ℕ) (old : V) → get m k ≡ Some old → len (remove m k) ≡ len m - 1
  len_removed m k old has = len-remove nat_cmp_total m k ∙ ap (λ o. cond (is_some o) (len m - 1) (len m)) has

  len_by_case : (m : NumberedValues V) (k : ℕ) (f : V → V) (o : Option V) → get m k ≡ o → len (changed m k f) ≡ len m
  len_by_case m k f None is = ap len (changed_None m k f is)
  len_by_case m k f (Some v) is = ap len (changed_Some m k f v is) ∙ len_replaced m k (f v) v is

  pub len_changed : (m : NumberedValues V) (k : ℕ) (f : V → V) → len (changed m k f) ≡ len m
  len_changed m k f = len_by_case m k f (get m k) refl

  -- the value that is there is put there
  pub insert_same : (m : NumberedValues V) (k : ℕ) (v : V) → get m k ≡ Some v → insert m k v ≡ m
  insert_same m k v has =
      same_numbered _ _ (λ q. elim (cases_eq q k) [
        | inl is ↦ ap (get (insert m k v)) is ∙ insert_here m k v ∙ sym has ∙ ap (get m) (sym is)
        | inr differ ↦ insert_other m k v q differ
      ])

  -- a number that has no value is removed
  pub remove_same : (m : NumberedValues V) (k : ℕ) → get m k ≡ None → remove m k ≡ m
  remove_same m k lacks =
      same_numbered _ _ (λ q. elim (cases_eq q k) [
        | inl is ↦ ap (get (remove m k)) is ∙ remove_here m k ∙ sym lacks ∙ ap (get m) (sym is)
        | inr differ ↦ remove_other m k q differ
      ])

  -- a value that is inserted and removed leaves the map unchanged
  pub removed_again : (m : NumberedValues V) (k : ℕ) (v : V) → get m k ≡ None → remove (insert m k v) k ≡ m
  removed_again m k v lacks =
      same_numbered _ _ (λ q. elim (cases_eq q k) [
        | inl is ↦ ap (get (remove (insert m k v) k)) is ∙ remove_here _ k ∙ sym lacks ∙ ap (get m) (sym is)
        | inr differ ↦ remove_other _ k q differ ∙ insert_other m k v q differ
      ])

  -- if two values are put at one number, the later one is retained
  pub insert_again : (m : NumberedValues V) (k : ℕ) (v w : V) → insert (insert m k v) k w ≡ insert m k w
  insert_again m k v w =
      same_numbered _ _ (λ q. elim (cases_eq q k) [
        | inl is ↦ ap (get (insert (insert m k v) k w)) is ∙ insert_here _ k w ∙ sym (insert_here m k w) ∙ ap (get (insert m k w)) (sym is)
        | inr differ ↦ insert_other _ k w q differ ∙ insert_other m k v q differ ∙ sym (insert_other m k w q differ)
      ])

  -- a value that is put and then changed
  pub changed_inserted : (m : NumberedValues V) (k : ℕ) (v : V) (f : V → V) → changed (insert m k v) k f ≡ insert m k (f v)
  changed_inserted m k v f = changed_Some (insert m k v) k f v (insert_here m k v) ∙ insert_again m k v (f v)

  -- a change at another number commutes with the insertion
  pub changed_through : (m : NumberedValues V) (k x : ℕ) (v : V) (f : V → V) → (k ≢ x) → changed (insert m x v) k f ≡ insert (changed m k f) x v
  changed_through m k x v f apart =
      same_numbered _ _ (λ q. elim (cases_eq q k) [
        | inl is ↦
            let differ : q ≢ x = λ e. apart (sym is ∙ e) in
            ap (get (changed (insert m x v) k f)) is ∙ changed_here _ k f
            ∙ ap (option_map f) (insert_other m x v k apart)
            ∙ sym (changed_here m k f) ∙ ap (get (changed m k f)) (sym is)
            ∙ sym (insert_other (changed m k f) x v q differ)
        | inr other ↦
            changed_other _ k f q other ∙ elim (cases_eq q x) [
              | inl same ↦
                  ap (get (insert m x v)) same ∙ insert_here m x v
                  ∙ sym (insert_here (changed m k f) x v) ∙ ap (get (insert (changed m k f) x v)) (sym same)
              | inr differ ↦
                  insert_other m x v q differ ∙ sym (changed_other m k f q other)
                  ∙ sym (insert_other (changed m k f) x v q differ)
            ]
      ])

  -- a change at another number commutes with the removal
  pub removed_changed : (m : NumberedValues V) (k x : ℕ) (f : V → V) → (k ≢ x) → remove (changed m k f) x ≡ changed (remove m x) k f
  removed_changed m k x f apart =
      same_numbered _ _ (λ q. elim (cases_eq q k) [
        | inl is ↦
            let differ : q ≢ x = λ e. apart (sym is ∙ e) in
            remove_other (changed m k f) x q differ ∙ ap (get (changed m k f)) is ∙ changed_here m k f
            ∙ ap (option_map f) (sym (remove_other m x k apart))
            ∙ sym (changed_here (remove m x) k f) ∙ ap (get (changed (remove m x) k f)) (sym is)
        | inr other ↦
            elim (cases_eq q x) as (λ _. get (remove (changed m k f) x) q ≡ get (remove m x) q) [
              | inl same ↦
                  ap (get (remove (changed m k f) x)) same ∙ remove_here (changed m k f) x
                  ∙ sym (remove_here m x) ∙ ap (get (remove m x)) (sym same)
              | inr differ ↦
                  remove_other (changed m k f) x q differ ∙ changed_other m k f q other
                  ∙ sym (remove_other m x q differ)
            ] ∙ sym (changed_other (remove m x) k f q other)
      ])

  -- a number that is removed after a change of it
  pub removed_after_change : (m : NumberedValues V) (k : ℕ) (f : V → V) → remove (changed m k f) k ≡ remove m k
  removed_after_change m k f =
      same_numbered _ _ (λ q. elim (cases_eq q k) [
        | inl is ↦ ap (get (remove (changed m k f) k)) is ∙ remove_here _ k ∙ sym (remove_here m k) ∙ ap (get (remove m k)) (sym is)
        | inr differ ↦ remove_other _ k q differ ∙ changed_other m k f q differ ∙ sym (remove_other m k q differ)
      ])

module _ {V W : Type 0} (f : V → W) where
  -- two maps agree on after the same insertion
  pub agree_insert : (plain : NumberedValues V) (stored : NumberedValues W) (k : ℕ) (v : V) (w : W) → AgreesUnder f plain stored → w ≡ f v → AgreesUnder f (insert plain k v) (insert stored k w)
  agree_insert plain stored k v w agree is q =
      elim (cases_eq q k) [
        | inl same ↦
            ap (get (insert stored k w)) same ∙ insert_here stored k w ∙ ap (λ x. Some x) is
            ∙ ap (option_map f) (sym (insert_here plain k v) ∙ ap (get (insert plain k v)) (sym same))
        | inr differ ↦
            insert_other stored k w q differ ∙ agree q ∙ ap (option_map f) (sym (insert_other plain k v q differ))
      ]

  mapped_twice : (g : V → V) (h : W → W) (o : Option V) → ((v : V) → o ≡ Some v → h (f v) ≡ f (g v)) → option_map h (option_map f o) ≡ option_map f (option_map g o)
  mapped_twice g h None alike = refl
  mapped_twice g h (Some v) alike = ap (λ x. Some x) (alike v refl)

  -- and after the same change of the value that is there
  pub agree_changed : (plain : NumberedValues V) (stored : NumberedValues W) (k : ℕ) (g : V → V) (h : W → W) → AgreesUnder f plain stored → ((v : V) → get plain k ≡ Some v → h (f v) ≡ f (g v)) → AgreesUnder f (changed plain k g) (changed stored k h)
  agree_changed plain stored k g h agree alike q =
      elim (cases_eq q k) [
        | inl same ↦
            ap (get (changed stored k h)) same ∙ changed_here stored k h ∙ ap (option_map h) (agree k)
            ∙ mapped_twice g h (get plain k) alike
            ∙ ap (option_map f) (sym (changed_here plain k g) ∙ ap (get (changed plain k g)) (sym same))
        | inr differ ↦
            changed_other stored k h q differ ∙ agree q ∙ ap (option_map f) (sym (changed_other plain k g q differ))
      ]

  -- and after the same removal
  pub agree_remove : (plain : NumberedValues V) (stored : NumberedValues W) (k : ℕ) → AgreesUnder f plain stored → AgreesUnder f (remove plain k) (remove stored k)
  agree_remove plain stored k agree q =
      elim (cases_eq q k) [
        | inl same ↦
            ap (get (remove stored k)) same ∙ remove_here stored k
            ∙ ap (option_map f) (sym (remove_here plain k) ∙ ap (get (remove plain k)) (sym same))
        | inr differ ↦
            remove_other stored k q differ ∙ agree q ∙ ap (option_map f) (sym (remove_other plain k q differ))
      ]
