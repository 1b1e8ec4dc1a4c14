-- Handles with their index and counts, when one comes or goes.
use Rattle.std.proofs.Common.{◌≡◌, ℕ, ◌+◌, ◌<◌, ◌≤◌, ◌^◌, nat_le, length, Bool, true, false, cond, not, ◌&&◌, ◌||◌, [], ◌∷◌, ◌++◌, eqb, Option, Some, None, option_map, unwrap_or, inl, inr, ◌⊎◌, refl, sym, ap, subst, ◌∙◌, arith}
use Rattle.std.specs.Option.{option_or}
use Rattle.std.specs.List.{list_any, find, filter}
use Rattle.std.specs.Map.{lookup}
use Rattle.std.specs.Ordering.{nat_cmp, eq_by_cmp}
use Rattle.std.specs.Cmp.{IsTotalOrder, nat_cmp_total, on_total, then_total, eq_by_cmp_equiv}
use Rattle.std.specs.FinMap.{IsAntisymmetric, nat_cmp-IsAntisymmetric}
use Rattle.std.specs.BTreeMap as tree
use Rattle.std.specs.BTreeMap.{BTreeMap}
use Rattle.std.proofs.lemmas.Bool.{cases_eq, cases_Bool, and_parts, or_cases, or_parts, true≢false, eqb-true, eq-eqb, leb-false}
use Rattle.std.proofs.lemmas.List.Folds.{find-append, list_any-append}
use Rattle.std.proofs.lemmas.Map.Lookups.{exact_pairs, exact_unsigned}
use Rattle.number_map.specs.Numbered.{NumberedValues, insert}
use Rattle.number_map.proofs.NumberedLemmas.{insert_here, insert_other}
use Rattle.key_counts.proofs.CountLemmas.{tied}
use Rattle.key_counts.proofs.ShownLemmas.{get-shown, shown-inserted}
use Rattle.mount_model.specs.declared.handle.Handle.{Handle}
use Rattle.mount_model.specs.PlainMount.{HandleList}
use Rattle.mount_model.specs.OpenHandles.{is_handle, node_of, without_handle, opens_of}
use Rattle.mount_model.specs.SoundHandles.{is_live}
use Rattle.mount_model.specs.declared.limits.TheConstants.{MAX_HANDLES, MAX_OPENS}
use Rattle.mount_state.specs.KeptHandles.{pair_cmp, opened_in, IsIndexed}
use Rattle.mount_state.proofs.LossLemmas.{single_put, fewer_left}

-- ---- the index's order

pair_cmp_total : IsTotalOrder pair_cmp
pair_cmp_total = then_total (on_total (λ (p : ℕ × ℕ). p.0) nat_cmp_total) (on_total (λ (p : ℕ × ℕ). p.1) nat_cmp_total)

pair_cmp-IsAntisymmetric : IsAntisymmetric pair_cmp
pair_cmp-IsAntisymmetric = exact_pairs nat_cmp nat_cmp exact_unsigned exact_unsigned

itself : (p : ℕ × ℕ) → eq_by_cmp pair_cmp p p ≡ true
itself p = (eq_by_cmp_equiv pair_cmp_total).refl p

-- ---- counts

same_option : {X : Type 0} (o : Option X) → option_map (λ x. x) o ≡ o
same_option None = refl
same_option (Some x) = refl

pub opens_seen : (m : BTreeMap ℕ ℕ) (caller : ℕ) → unwrap_or (tree.get nat_cmp m caller) 0 ≡ opens_of (opened_in m.entries) caller
opens_seen m caller = sym (ap (λ o. unwrap_or o 0) (get-shown nat_cmp_total (λ count. count) m.entries caller ∙ same_option (tree.get nat_cmp m caller)))

pub opened_more : (m n : BTreeMap ℕ ℕ) (caller : ℕ) → ((q : ℕ) → tree.get nat_cmp n q ≡ cond (eq_by_cmp nat_cmp caller q) (Some (unwrap_or (tree.get nat_cmp m caller) 0 + 1)) (tree.get nat_cmp m q))
    → opened_in n.entries ≡ insert (opened_in m.entries) caller (opens_of (opened_in m.entries) caller + 1)
opened_more m n caller updates =
    shown-inserted nat_cmp_total (λ count. count) nat_cmp-IsAntisymmetric m n caller (unwrap_or (tree.get nat_cmp m caller) 0 + 1) updates
    ∙ ap (λ k. insert (opened_in m.entries) caller (k + 1)) (opens_seen m caller)

pub opened_same : (m n : BTreeMap ℕ ℕ) → tree.IsUnchanged m n → opened_in n.entries ≡ opened_in m.entries
opened_same m n same = ap opened_in same

pub index_same : (live : HandleList) (index after : BTreeMap (ℕ × ℕ) ℕ) (opened : NumberedValues ℕ) → IsIndexed live index opened → tree.IsUnchanged index after
    → IsIndexed live after opened
index_same live index after opened kept same = record {
  indexed = λ c n. ap (lookup (eq_by_cmp pair_cmp (c, n))) same ∙ kept.indexed c n;
  numbered = kept.numbered;
  single = kept.single;
}

-- ---- searches

none_found : (p : Handle → Bool) (hs : HandleList) → list_any p hs ≡ false → find p hs ≡ None
none_found p [] none = refl
none_found p (h ∷ hs) none = elim (cases_Bool (p h)) [
  | inl it ↦ absurd (true≢false (sym (ap (λ b. b || list_any p hs) it) ∙ none))
  | inr other ↦
      ap (λ b. cond b (Some h) (find p hs)) other
      ∙ none_found p hs (sym (ap (λ b. b || list_any p hs) other) ∙ none)
]

same_caller : (caller number : ℕ) (h : Handle) → is_handle caller number h ≡ true → (h.caller ≡ caller) × (h.number ≡ number)
same_caller caller number h is =
    let parts = and_parts (eqb h.caller caller) (eqb h.number number) is in
    (eqb-true h.caller caller parts.0, eqb-true h.number number parts.1)

-- a search that what goes can't pass
other_found : (keep p : Handle → Bool) (hs : HandleList) → ((h : Handle) → p h ≡ true → keep h ≡ true) → find p (filter keep hs) ≡ find p hs
other_found keep p [] both = refl
other_found keep p (h ∷ hs) both = elim (cases_Bool (keep h)) [
  | inl kept ↦ ap (λ b. find p (cond b (h ∷ filter keep hs) (filter keep hs))) kept ∙ ap (cond (p h) (Some h)) (other_found keep p hs both)
  | inr lost ↦
      ap (λ b. find p (cond b (h ∷ filter keep hs) (filter keep hs))) lost ∙ other_found keep p hs both
      ∙ sym (ap (λ b. cond b (Some h) (find p hs)) (unpassed (p h) refl lost))
]
  where
    unpassed : (b : Bool) → p h ≡ b → keep h ≡ false → b ≡ false
    unpassed true is lost = absurd (true≢false (sym (both h is) ∙ lost))
    unpassed false is lost = refl

-- what went is not found
self_gone : (p : Handle → Bool) (hs : HandleList) → find p (filter (λ h. not (p h)) hs) ≡ None
self_gone p [] = refl
self_gone p (h ∷ hs) = elim (cases_Bool (p h)) [
  | inl it ↦ ap (λ b. find p (cond (not b) (h ∷ filter (λ h. not (p h)) hs) (filter (λ h. not (p h)) hs))) it ∙ self_gone p hs
  | inr other ↦
      ap (λ b. find p (cond (not b) (h ∷ filter (λ h. not (p h)) hs) (filter (λ h. not (p h)) hs))) other
      ∙ (ap (λ b. cond b (Some h) (find p (filter (λ h. not (p h)) hs))) other ∙ self_gone p hs)
]

-- what is left of a list passes no test that nothing in it passed
some_left : (keep p : Handle → Bool) (hs : HandleList) → list_any p (filter keep hs) ≡ true → list_any p hs ≡ true
some_left keep p [] is = is
some_left keep p (h ∷ hs) is = elim (cases_Bool (keep h)) [
  | inl kept ↦
      elim (or_cases (p h) (list_any p (filter keep hs)) (sym (ap (λ b. list_any p (cond b (h ∷ filter keep hs) (filter keep hs))) kept) ∙ is)) [
        | inl it ↦ ap (λ b. b || list_any p hs) it
        | inr rest ↦ last (p h) (some_left keep p hs rest)
      ]
  | inr lost ↦ last (p h) (some_left keep p hs (sym (ap (λ b. list_any p (cond b (h ∷ filter keep hs) (filter keep hs))) lost) ∙ is))
]
  where
    last : (b : Bool) → list_any p hs ≡ true → (b || list_any p hs) ≡ true
    last true there = refl
    last false there = there

-- ---- opened

module _ (live : HandleList) (index : BTreeMap (ℕ × ℕ) ℕ) (opened : NumberedValues ℕ) (kept : IsIndexed live index opened) (caller node : ℕ) where
  abbrev count : ℕ
  count = opens_of opened caller

  abbrev new : Handle
  new = record { caller = caller; number = count; node = node }

  abbrev more : HandleList
  more = live ++ new ∷ []

  abbrev counted : NumberedValues ℕ
  counted = insert opened caller (count + 1)

  unused : is_live live caller count ≡ false
  unused = elim (cases_Bool (is_live live caller count)) [
    | inl live ↦ let below : count < count = kept.numbered caller count live in absurd (omega arith)
    | inr none ↦ none
  ]

  -- no handle has the number that comes next
  pub number_free : tree.get pair_cmp index (caller, count) ≡ None
  number_free = kept.indexed caller count ∙ ap (option_map (λ (h : Handle). h.node)) (none_found (is_handle caller count) live unused)

  found_new : node_of more caller count ≡ Some node
  found_new =
      ap (option_map (λ (h : Handle). h.node)) (find-append (is_handle caller count) live (new ∷ []) ∙ ap (λ o. option_or o (find (is_handle caller count) (new ∷ []))) (none_found (is_handle caller count) live unused))
      ∙ ap (λ b. option_map (λ (h : Handle). h.node) (cond b (Some new) None)) own
    where
      own : is_handle caller count new ≡ true
      own = λ i. eq-eqb caller caller refl i && eq-eqb count count refl i

  found_old : (c n : ℕ) → is_handle c n new ≡ false → node_of more c n ≡ node_of live c n
  found_old c n other =
      ap (option_map (λ (h : Handle). h.node)) (find-append (is_handle c n) live (new ∷ []) ∙ (ap (λ b. option_or (find (is_handle c n) live) (cond b (Some new) None)) other ∙ or_none (find (is_handle c n) live)))
    where
      or_none : (o : Option Handle) → option_or o None ≡ o
      or_none None = refl
      or_none (Some h) = refl

  caller_counted : opens_of counted caller ≡ count + 1
  caller_counted = ap (λ o. unwrap_or o 0) (insert_here opened caller (count + 1))

  at_least : (c : ℕ) → opens_of opened c ≤ opens_of counted c
  at_least c = elim (cases_eq c caller) [
    | inl is ↦
        let here : opens_of opened caller ≤ opens_of counted caller = omega (arith, caller_counted) in
        subst (λ y. opens_of opened y ≤ opens_of counted y) (sym is) here
    | inr differ ↦ let same : opens_of counted c ≡ opens_of opened c = ap (λ o. unwrap_or o 0) (insert_other opened caller (count + 1) c differ) in omega (arith, same)
  ]

  of_more : (p : Handle → Bool) → list_any p more ≡ true → (list_any p live ≡ true) ⊎ (p new ≡ true)
  of_more p is = elim (or_cases (list_any p live) (list_any p (new ∷ [])) (sym (list_any-append p live (new ∷ [])) ∙ is)) [
    | inl old ↦ inl old
    | inr one ↦ elim (or_cases (p new) false one) [ inl it ↦ inr it | inr none ↦ absurd (true≢false (sym none)) ]
  ]

  pub index_put : (after : BTreeMap (ℕ × ℕ) ℕ) → ((q : ℕ × ℕ) → tree.get pair_cmp after q ≡ cond (eq_by_cmp pair_cmp (caller, count) q) (Some node) (tree.get pair_cmp index q)) → IsIndexed more after counted
  index_put after updates = record {
    indexed = λ c n. elim (cases_Bool (eq_by_cmp pair_cmp (caller, count) (c, n))) [
      | inl here ↦
          updates (c, n) ∙ (ap (λ b. cond b (Some node) (tree.get pair_cmp index (c, n))) here
          ∙ (sym found_new ∙ ap (λ (p : ℕ × ℕ). node_of more p.0 p.1) (tied pair_cmp-IsAntisymmetric (caller, count) (c, n) here)))
      | inr apart ↦
          updates (c, n) ∙ (ap (λ b. cond b (Some node) (tree.get pair_cmp index (c, n))) apart
          ∙ (kept.indexed c n ∙ sym (found_old c n (unlike c n apart))))
    ];
    numbered = λ c j live. elim (of_more (is_handle c j) live) [
      | inl old ↦ let was = kept.numbered c j old in let more_opens = at_least c in omega arith
      | inr it ↦
          let same = same_caller c j new it in
          subst (λ y. j < opens_of counted y) same.0 (subst (λ y. y < opens_of counted caller) same.1 (omega (arith, caller_counted)))
    ];
    single = λ c j. single_put (is_handle c j) live new
        (λ it.
        let same = same_caller c j new it in
        subst (λ y. is_live live y j ≡ false) same.0 (subst (λ y. is_live live caller y ≡ false) same.1 unused))
        (kept.single c j);
  }
    where
      unlike : (c n : ℕ) → eq_by_cmp pair_cmp (caller, count) (c, n) ≡ false → is_handle c n new ≡ false
      unlike c n apart = elim (cases_Bool (is_handle c n new)) [
        | inl is ↦
            let same = same_caller c n new is in
            absurd (true≢false (sym (itself (caller, count)) ∙ (ap (λ (p : ℕ × ℕ). eq_by_cmp pair_cmp (caller, count) p) (λ i. (same.0 i, same.1 i)) ∙ apart)))
        | inr other ↦ other
      ]

  -- put in and taken out again
  pub index_undone : (between after : BTreeMap (ℕ × ℕ) ℕ) → ((q : ℕ × ℕ) → tree.get pair_cmp between q ≡ cond (eq_by_cmp pair_cmp (caller, count) q) (Some node) (tree.get pair_cmp index q))
      → ((q : ℕ × ℕ) → tree.get pair_cmp after q ≡ cond (eq_by_cmp pair_cmp (caller, count) q) None (tree.get pair_cmp between q)) → IsIndexed live after opened
  index_undone between after put taken = record {
    indexed = λ c n. taken (c, n) ∙ (elim (cases_Bool (eq_by_cmp pair_cmp (caller, count) (c, n))) [
      | inl here ↦
          ap (λ b. cond b None (tree.get pair_cmp between (c, n))) here
          ∙ (sym number_free ∙ ap (λ (p : ℕ × ℕ). tree.get pair_cmp index p) (tied pair_cmp-IsAntisymmetric (caller, count) (c, n) here))
      | inr apart ↦
          ap (λ b. cond b None (tree.get pair_cmp between (c, n))) apart
          ∙ (put (c, n) ∙ ap (λ b. cond b (Some node) (tree.get pair_cmp index (c, n))) apart)
    ] ∙ kept.indexed c n);
    numbered = kept.numbered;
    single = kept.single;
  }

-- ---- closed

pub index_taken : (live : HandleList) (index after : BTreeMap (ℕ × ℕ) ℕ) (opened : NumberedValues ℕ) (caller number : ℕ) → IsIndexed live index opened
    → ((q : ℕ × ℕ) → tree.get pair_cmp after q ≡ cond (eq_by_cmp pair_cmp (caller, number) q) None (tree.get pair_cmp index q)) → IsIndexed (without_handle caller number live) after opened
index_taken live index after opened caller number kept taken = record {
  indexed = λ c n. taken (c, n) ∙ (elim (cases_Bool (eq_by_cmp pair_cmp (caller, number) (c, n))) [
    | inl here ↦
        ap (λ b. cond b None (tree.get pair_cmp index (c, n))) here
        ∙ (sym (ap (option_map (λ (h : Handle). h.node)) (self_gone (is_handle caller number) live))
        ∙ ap (λ (p : ℕ × ℕ). node_of (without_handle caller number live) p.0 p.1) (tied pair_cmp-IsAntisymmetric (caller, number) (c, n) here))
    | inr apart ↦
        ap (λ b. cond b None (tree.get pair_cmp index (c, n))) apart
        ∙ (kept.indexed c n
        ∙ sym (ap (option_map (λ (h : Handle). h.node)) (other_found (λ h. not (is_handle caller number h)) (is_handle c n) live (λ h is. stays c n apart h is))))
  ]);
  numbered = λ c n left. kept.numbered c n (some_left (λ h. not (is_handle caller number h)) (is_handle c n) live left);
  single = λ c n.
      let fewer = fewer_left (λ h. not (is_handle caller number h)) (is_handle c n) live in
      let one = kept.single c n in
      omega arith;
}
  where
    stays : (c n : ℕ) → eq_by_cmp pair_cmp (caller, number) (c, n) ≡ false → (h : Handle) → is_handle c n h ≡ true → not (is_handle caller number h) ≡ true
    stays c n apart h is = elim (cases_Bool (is_handle caller number h)) [
      | inl it ↦
          let one = same_caller c n h is in
          let two = same_caller caller number h it in
          absurd (true≢false (sym (itself (caller, number)) ∙ (ap (λ (p : ℕ × ℕ). eq_by_cmp pair_cmp (caller, number) p) (λ i. ((sym two.0 ∙ one.0) i, (sym two.1 ∙ one.1) i)) ∙ apart)))
      | inr other ↦ ap not other
    ]

-- ---- capacity

pub below_most : (live : HandleList) (opens : ℕ) → (nat_le MAX_HANDLES (length live) || nat_le MAX_OPENS opens) ≡ false → opens + 1 < 2 ^ 32
below_most live opens free =
    let room = or_parts (nat_le MAX_HANDLES (length live)) (nat_le MAX_OPENS opens) free in
    let below : opens < MAX_OPENS = leb-false MAX_OPENS opens room.1 in
    omega arith
