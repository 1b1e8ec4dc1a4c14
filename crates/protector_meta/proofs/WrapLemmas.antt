-- Wraps stay distinct when one is added or dropped.
use Rattle.std.proofs.Common.{◌≡◌, ℕ, ◌+◌, ◌<◌, ◌≤◌, Bool, true, false, not, ◌||◌, List, [], ◌∷◌, ◌++◌, length, length-append, filter, refl, sym, ap, ◌∙◌, subst, ⊎_elim, arith}
use Rattle.std.proofs.lemmas.Bool.{cases_Bool, cond_both, cond-true, cond-false, or_parts, or_from, not_from_true, not_from_false, true≢false}
use Rattle.std.proofs.lemmas.Cmp.{nat_list_eq_equiv}
use Rattle.std.proofs.lemmas.Slice.Eq.{bytes_eq-Decides}
use Rattle.std.proofs.lemmas.List.Folds.{list_any-append}
use Rattle.protector_meta.specs.declared.wraps.Wrap.{Wrap}
use Rattle.protector_meta.specs.Wraps.{AreDistinct, AreWraps, is_for, is_listed, wraps_without}

-- ---- one more

pub AreDistinct-push : (ws : List Wrap) (w : Wrap) → AreDistinct ws → is_listed w.protector ws ≡ false → AreDistinct (ws ++ w ∷ [])
AreDistinct-push [] w distinct new = (refl, tt)
AreDistinct-push (x ∷ xs) w distinct new =
    let apart = or_parts (is_for w.protector x) (is_listed w.protector xs) new in
    let other : is_for x.protector w ≡ false = nat_list_eq_equiv.symm w.protector x.protector ∙ apart.0 in (
      list_any-append (is_for x.protector) xs (w ∷ [])
          ∙ or_from (is_listed x.protector xs) (is_listed x.protector (w ∷ [])) distinct.0 (or_from (is_for x.protector w) false other refl),
      AreDistinct-push xs w distinct.1 apart.1,
    )

pub AreWraps-push : (ws after : List Wrap) (w : Wrap) → AreWraps ws → is_listed w.protector ws ≡ false → length ws < 16 → after ≡ ws ++ w ∷ [] → AreWraps after
AreWraps-push ws after w kept new room pushed =
    let long : length (ws ++ w ∷ []) ≡ length ws + 1 = length-append ws (w ∷ []) in
    subst AreWraps (sym pushed) (record { some = omega arith; few = omega arith; distinct = AreDistinct-push ws w kept.distinct new })

-- ---- one less

unlisted-filter : (p : Wrap → Bool) (label : List ℕ) (ws : List Wrap) → is_listed label ws ≡ false → is_listed label (filter p ws) ≡ false
unlisted-filter p label [] none = refl
unlisted-filter p label (x ∷ xs) none =
    let apart = or_parts (is_for label x) (is_listed label xs) none in
    let rest = unlisted-filter p label xs apart.1 in
    cond_both (p x) (x ∷ filter p xs) (filter p xs) (λ l. is_listed label l ≡ false)
    (λ _. or_from (is_for label x) (is_listed label (filter p xs)) apart.0 rest) (λ _. rest)

AreDistinct-filter : (p : Wrap → Bool) (ws : List Wrap) → AreDistinct ws → AreDistinct (filter p ws)
AreDistinct-filter p [] distinct = tt
AreDistinct-filter p (x ∷ xs) distinct =
    cond_both (p x) (x ∷ filter p xs) (filter p xs) AreDistinct
    (λ _. (unlisted-filter p x.protector xs distinct.0, AreDistinct-filter p xs distinct.1)) (λ _. AreDistinct-filter p xs distinct.1)

-- no wrap is removed if the protector isn't listed
unlisted_without : (label : List ℕ) (ws : List Wrap) → is_listed label ws ≡ false → wraps_without label ws ≡ ws
unlisted_without label [] none = refl
unlisted_without label (x ∷ xs) none =
    let apart = or_parts (is_for label x) (is_listed label xs) none in
    cond-true (not (is_for label x)) (x ∷ wraps_without label xs) (wraps_without label xs) (not_from_false (is_for label x) apart.0)
    ∙ ap (λ l. x ∷ l) (unlisted_without label xs apart.1)

-- one wrap is removed if the protector is listed
length-without : (label : List ℕ) (ws : List Wrap) → AreDistinct ws → is_listed label ws ≡ true → length (wraps_without label ws) + 1 ≡ length ws
length-without label [] distinct listed = absurd (true≢false (sym listed))
length-without label (x ∷ xs) distinct listed = ⊎_elim
    (λ here.
    let same : x.protector ≡ label = (bytes_eq-Decides x.protector label).0 here in
    let none : is_listed label xs ≡ false = subst (λ l. is_listed l xs ≡ false) same distinct.0 in
    let rest : wraps_without label (x ∷ xs) ≡ xs =
    cond-false (not (is_for label x)) (x ∷ wraps_without label xs) (wraps_without label xs) (not_from_true (is_for label x) here)
    ∙ unlisted_without label xs none in
    let long : length (wraps_without label (x ∷ xs)) ≡ length xs = ap length rest in
    omega arith)
    (λ apart.
    let later : is_listed label xs ≡ true = sym (ap (λ b. b || is_listed label xs) apart) ∙ listed in
    let stays : wraps_without label (x ∷ xs) ≡ x ∷ wraps_without label xs =
    cond-true (not (is_for label x)) (x ∷ wraps_without label xs) (wraps_without label xs) (not_from_false (is_for label x) apart) in
    let long : length (wraps_without label (x ∷ xs)) ≡ length (wraps_without label xs) + 1 = ap length stays ∙ omega arith in
    let below : length (wraps_without label xs) + 1 ≡ length xs = length-without label xs distinct.1 later in
    omega arith)
    (cases_Bool (is_for label x))

pub AreWraps-without : (label : List ℕ) (ws after : List Wrap) → AreWraps ws → is_listed label ws ≡ true → 2 ≤ length ws → after ≡ wraps_without label ws → AreWraps after
AreWraps-without label ws after kept listed two dropped =
    let long : length (wraps_without label ws) + 1 ≡ length ws = length-without label ws kept.distinct listed in
    let few = kept.few in
    subst AreWraps (sym dropped) (record { some = omega arith; few = omega arith; distinct = AreDistinct-filter (λ wrap. not (is_for label wrap)) ws kept.distinct })
