-- Handles stay well formed after one is opened.
use Rattle.std.proofs.Common.{◌≡◌, ◌≢◌, ℕ, suc, ◌+◌, ◌<◌, ◌≤◌, Bool, true, false, ◌&&◌, ◌||◌, [], ◌∷◌, ◌++◌, length, eqb, inl, inr, ◌⊎◌, refl, sym, ap, subst, ◌∙◌, arith}
use Rattle.std.specs.Option.{unwrap_or}
use Rattle.std.specs.List.{list_any}
use Rattle.std.specs.Cmp.{IsEquivalence}
use Rattle.std.proofs.lemmas.Bool.{cases_eq, cases_Bool, and_parts, or_cases, true≢false, eqb-true, eq-eqb, ne_eqb}
use Rattle.std.proofs.lemmas.List.Folds.{list_any-append}
use Rattle.std.proofs.lemmas.Map.Keys.{IsDistinct-push}
use Rattle.number_map.specs.Numbered.{NumberedValues, insert}
use Rattle.number_map.proofs.NumberedLemmas.{insert_here, insert_other}
use Rattle.plain_tree.specs.Nodes.{Nodes}
use Rattle.mount_model.specs.declared.handle.Handle.{Handle}
use Rattle.mount_model.specs.declared.limits.TheConstants.{MAX_HANDLES, MAX_OPENS}
use Rattle.mount_model.specs.PlainMount.{HandleList}
use Rattle.mount_model.specs.OpenHandles.{is_handle, opens_of}
use Rattle.mount_model.specs.SoundHandles.{is_openable, is_live, is_same_handle, HasHandles}

-- ---- one handle and another

pub same_caller : (caller number : ℕ) (h : Handle) → is_handle caller number h ≡ true → (h.caller ≡ caller) × (h.number ≡ number)
same_caller caller number h is =
    let parts = and_parts (eqb h.caller caller) (eqb h.number number) is in
    (eqb-true h.caller caller parts.0, eqb-true h.number number parts.1)

its_own : (h : Handle) → is_same_handle h h ≡ true
its_own h k = eq-eqb h.caller h.caller refl k && eq-eqb h.number h.number refl k

turned : (a b : ℕ) → eqb a b ≡ eqb b a
turned a b = elim (cases_eq a b) [
  | inl is ↦ eq-eqb a b is ∙ sym (eq-eqb b a (sym is))
  | inr differ ↦ ne_eqb a b differ ∙ sym (ne_eqb b a (λ e. differ (sym e)))
]

same_handle_equiv : IsEquivalence is_same_handle
same_handle_equiv = record {
  refl = its_own;
  symm = λ g h k. turned h.caller g.caller k && turned h.number g.number k;
  congr = λ g h i is.
      let same = same_caller g.caller g.number h is in
      λ k. eqb i.caller (sym same.0 k) && eqb i.number (sym same.1 k);
}

-- ---- opened

module _ (nodes : Nodes) (handles : HandleList) (opened : NumberedValues ℕ) (well : HasHandles nodes handles opened) (caller n : ℕ) where
  abbrev count : ℕ
  count = opens_of opened caller

  abbrev new : Handle
  new = record { caller = caller; number = count; node = n }

  abbrev more : HandleList
  more = handles ++ new ∷ []

  abbrev counted : NumberedValues ℕ
  counted = insert opened caller (count + 1)

  caller_counted : opens_of counted caller ≡ count + 1
  caller_counted = ap (λ o. unwrap_or o 0) (insert_here opened caller (count + 1))

  other_counted : (c : ℕ) → (c ≢ caller) → opens_of counted c ≡ opens_of opened c
  other_counted c differ = ap (λ o. unwrap_or o 0) (insert_other opened caller (count + 1) c differ)

  at_least : (c : ℕ) → opens_of opened c ≤ opens_of counted c
  at_least c = elim (cases_eq c caller) [
    | inl is ↦
        let here : opens_of opened caller ≤ opens_of counted caller = omega (arith, caller_counted) in
        subst (λ y. opens_of opened y ≤ opens_of counted y) (sym is) here
    | inr differ ↦ omega (arith, other_counted c differ)
  ]

  of_more : (p : Handle → Bool) → list_any p more ≡ true → (list_any p handles ≡ true) ⊎ (p new ≡ true)
  of_more p is = elim (or_cases (list_any p handles) (list_any p (new ∷ [])) (sym (list_any-append p handles (new ∷ [])) ∙ is)) [
    | inl old ↦ inl old
    | inr one ↦ elim (or_cases (p new) false one) [ inl it ↦ inr it | inr none ↦ absurd (true≢false (sym none)) ]
  ]

  still : (p : Handle → Bool) → list_any p handles ≡ true → list_any p more ≡ true
  still p is = list_any-append p handles (new ∷ []) ∙ ap (λ b. b || list_any p (new ∷ [])) is

  unused : list_any (is_same_handle new) handles ≡ false
  unused = elim (cases_Bool (is_live handles caller count)) [
    | inl live ↦ let below : count < count = well.numbered caller count live in absurd (omega arith)
    | inr none ↦ none
  ]

  pub opened_well : is_openable nodes n ≡ true → length handles < MAX_HANDLES → count < MAX_OPENS → HasHandles nodes more counted
  opened_well openable room below = record {
    on = λ q held. elim (of_more (λ h. eqb h.node q) held) [
      | inl old ↦ well.on q old
      | inr it ↦ subst (λ y. is_openable nodes y ≡ true) (eqb-true n q it) openable
    ];
    nameless = λ q there none. still (λ h. eqb h.node q) (well.nameless q there none);
    numbered = λ c j live. elim (of_more (is_handle c j) live) [
      | inl old ↦ let was = well.numbered c j old in let more_opens = at_least c in omega arith
      | inr it ↦
          let same = same_caller c j new it in
          subst (λ y. j < opens_of counted y) same.0 (subst (λ y. y < opens_of counted caller) same.1 (omega (arith, caller_counted)))
    ];
    distinct = IsDistinct-push same_handle_equiv handles new well.distinct unused;
    few = grown_length handles;
    few_opens = λ c. elim (cases_eq c caller) [
      | inl is ↦ subst (λ y. opens_of counted y ≤ MAX_OPENS) (sym is) (omega (arith, caller_counted))
      | inr differ ↦ let few = well.few_opens c in omega (arith, other_counted c differ)
    ];
  }
    where
      push_length : (hs : HandleList) → length (hs ++ new ∷ []) ≡ length hs + 1
      push_length [] = refl
      push_length (h ∷ hs) = ap (λ k. suc k) (push_length hs) ∙ omega arith

      grown_length : (hs : HandleList) → length (handles ++ new ∷ []) ≤ MAX_HANDLES
      grown_length hs = omega (arith, push_length handles)
