-- A stored name that has a text is found by what the text spells.
use Rattle.std.proofs.Common.{◌≡◌, ℕ, ◌<◌, ◌≤◌, Bool, true, false, cond, ◌&&◌, List, [], ◌∷◌, length, Option, Some, None, option_map, bytes_eq, inl, inr, refl, sym, ap, ◌∙◌, arith}
use Rattle.std.specs.Map.{lookup_entry}
use Rattle.std.proofs.lemmas.Bool.{cases_lt, true≢false, le-leb, lt-leb}
use Rattle.std.proofs.lemmas.Slice.Eq.{bytes_eq-Decides}
use Rattle.byte_words.specs.Bytes.{AreBytes}
use Rattle.name_crypt.specs.declared.limits.TheConstants.{MIN_STORED_BYTES, MAX_NAME_BYTES, MAX_SPELLED_BYTES}
use Rattle.name_crypt.specs.NoKeyText.{nokey_text_of, visible_bytes, HasVisibleBytes}
use Rattle.name_crypt.proofs.TextLemmas.{shown_whole, length-visible_bytes}
use Rattle.disk_tree.specs.Entries.{Entries, HaveByteNames, number_under}
use Rattle.mount_state.specs.Resolution.{is_stored, is_text_of, has_visible_name}
use Rattle.mount_state.proofs.LedLemmas.{decided}

-- ---- searches

-- two tests that agree on bytes find the same
same_search : (f g : List ℕ → Bool) (es : Entries) → HaveByteNames es → ((stored : List ℕ) → AreBytes stored → f stored ≡ g stored) → lookup_entry f es ≡ lookup_entry g es
same_search f g [] ranged same = refl
same_search f g (e ∷ es) ranged same = λ i. cond (same e.0 ranged.0 i) (Some e) (same_search f g es ranged.1 same i)

none_found : (f : List ℕ → Bool) (es : Entries) → ((stored : List ℕ) → f stored ≡ false) → lookup_entry f es ≡ None
none_found f [] never = refl
none_found f (e ∷ es) never = λ i. cond (never e.0 i) (Some e) (none_found f es never i)

all_found : (f g : List ℕ → Bool) (es : Entries) → ((stored : List ℕ) → f stored ≡ g stored) → lookup_entry f es ≡ lookup_entry g es
all_found f g [] same = refl
all_found f g (e ∷ es) same = λ i. cond (same e.0 i) (Some e) (all_found f g es same i)

-- if a name is looked up, the entry that is found has it
sought : (name : List ℕ) (es : Entries) → option_map (λ (x : ℕ). (name, x)) (number_under name es) ≡ lookup_entry (bytes_eq name) es
sought name [] = refl
sought name (e ∷ es) = (elim (bytes_eq name e.0) as (λ b. (b ≡ true → name ≡ e.0)
    → option_map (λ (x : ℕ). (name, x)) (cond b (Some e.1) (number_under name es)) ≡ cond b (Some e) (lookup_entry (bytes_eq name) es)) [
      | true ↦ λ same. ap (λ (n : List ℕ). Some (n, e.1)) (same refl)
      | false ↦ λ same. sought name es
    ]) (bytes_eq-Decides name e.0).0

-- ---- by a text, and by what it shows

is_false : (b : Bool) → (b ≡ true → ⊥) → b ≡ false
is_false true never = absurd (never refl)
is_false false never = refl

and_true : (a b : Bool) → (a && b) ≡ true → (a ≡ true) × (b ≡ true)
and_true true b is = (refl, is)
and_true false b is = absurd (true≢false (sym is))

module _ (text : List ℕ) (es : Entries) (ranged : HaveByteNames es) where
  pub by_shown : (shown : List ℕ) → HasVisibleBytes text (Some shown) → lookup_entry (has_visible_name shown) es ≡ lookup_entry (is_text_of text) es
  by_shown shown is = same_search (has_visible_name shown) (is_text_of text) es ranged (λ stored bytes.
      ap (λ b. is_stored stored && b) (decided (bytes_eq shown (visible_bytes stored)) text (nokey_text_of stored)
      (λ same. (is stored bytes).1 (ap Some ((bytes_eq-Decides shown (visible_bytes stored)).0 same)))
      (λ same. let both : Some shown ≡ Some (visible_bytes stored) = (is stored bytes).0 same in (bytes_eq-Decides shown (visible_bytes stored)).1 (cc both))))

  pub by_none : HasVisibleBytes text None → None ≡ lookup_entry (is_text_of text) es
  by_none is = sym (same_search (is_text_of text) (λ stored. false) es ranged (λ stored bytes. is_false (is_text_of text stored) (never stored bytes)) ∙ none_found (λ stored. false) es (λ stored. refl))
    where
      never : (stored : List ℕ) → AreBytes stored → is_text_of text stored ≡ true → ⊥
      never stored bytes has =
          let text_is : text ≡ nokey_text_of stored = (bytes_eq-Decides text (nokey_text_of stored)).0 ((and_true (is_stored stored) (bytes_eq text (nokey_text_of stored)) has).1) in
          let none : None ≡ Some (visible_bytes stored) = (is stored bytes).0 text_is in
          absurd (cc)

-- ---- by a name that is spelled whole, and by less than a name

module _ (shown : List ℕ) where
  shown_true : (stored : List ℕ) → has_visible_name shown stored ≡ true → (is_stored stored ≡ true) × (shown ≡ visible_bytes stored)
  shown_true stored is =
      let both = and_true (is_stored stored) (bytes_eq shown (visible_bytes stored)) is in
      (both.0, (bytes_eq-Decides shown (visible_bytes stored)).0 both.1)

  -- what was found under the name that is spelled whole
  pub by_whole : (es : Entries) → MIN_STORED_BYTES ≤ length shown → length shown ≤ MAX_SPELLED_BYTES → (n : Option ℕ) → n ≡ number_under shown es
      → option_map (λ (x : ℕ). (shown, x)) n ≡ lookup_entry (has_visible_name shown) es
  by_whole es least most n is =
      ap (option_map (λ (x : ℕ). (shown, x))) is
      ∙ (sought shown es
      ∙ sym (all_found (has_visible_name shown) (bytes_eq shown) es (λ stored. decided (has_visible_name shown stored) shown stored (to stored) (from stored))))
    where
      to : (stored : List ℕ) → has_visible_name shown stored ≡ true → shown ≡ stored
      to stored is =
          let same = (shown_true stored is).1 in
          elim (cases_lt 149 (length stored)) [
            | inl many ↦ absurd (omega (arith, ap length same, length-visible_bytes stored many))
            | inr few ↦ same ∙ shown_whole stored few
          ]

      from : (stored : List ℕ) → shown ≡ stored → has_visible_name shown stored ≡ true
      from stored same = rw (← same, shown_whole shown most, le-leb MIN_STORED_BYTES (length shown) least, le-leb (length shown) MAX_NAME_BYTES (omega (arith, most))) ((bytes_eq-Decides shown shown).1 refl)

  pub by_less : (es : Entries) → length shown < MIN_STORED_BYTES → None ≡ lookup_entry (has_visible_name shown) es
  by_less es less = sym (none_found (has_visible_name shown) es (λ stored. is_false (has_visible_name shown stored) (never stored)))
    where
      never : (stored : List ℕ) → has_visible_name shown stored ≡ true → ⊥
      never stored is =
          let both = shown_true stored is in
          elim (cases_lt 149 (length stored)) [
            | inl many ↦ omega (arith, less, ap length both.1, length-visible_bytes stored many)
            | inr few ↦ elim (cases_lt (length stored) MIN_STORED_BYTES) [
              | inl small ↦ true≢false (sym ((and_true _ _ both.0).0) ∙ lt-leb MIN_STORED_BYTES (length stored) small)
              | inr large ↦ omega (arith, less, large, ap length (both.1 ∙ shown_whole stored few))
            ]
          ]

  -- what a comparison with what a name spells means
  pub name_tells : (stored : List ℕ) (b : Bool) → MIN_STORED_BYTES ≤ length stored → length stored ≤ MAX_NAME_BYTES
      → (b ≡ true → shown ≡ visible_bytes stored) → (shown ≡ visible_bytes stored → b ≡ true) → b ≡ has_visible_name shown stored
  name_tells stored b least most to from =
      decided b shown (visible_bytes stored) to from
      ∙ sym (λ i. (le-leb _ _ least i && le-leb _ _ most i) && bytes_eq shown (visible_bytes stored))
