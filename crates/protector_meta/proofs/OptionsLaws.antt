-- The line of options: it is read from the text that spells it, and from no other text.
use Rattle.std.proofs.Common.{◌≡◌, ℕ, ◌^◌, ◌<◌, ◌==◌, Bool, true, false, List, [], ◌∷◌, ◌++◌, Option, Some, None, refl, sym, ap, ◌∙◌, arith, ◌⊎◌, inl, inr, ⊎_elim, lit<}
use Rattle.std.specs.Prelude.{codes, if◌then◌else◌}
use Rattle.std.specs.List.{join_with_byte}
use Rattle.std.proofs.lemmas.Bool.{eqb-true}
use Rattle.std.proofs.lemmas.List.Splits.{join_with_byte-slice_split}
use Rattle.std.proofs.lemmas.Option.{same_Some}
use Rattle.text_words.specs.Numbers.{decimal_of, number_below}
use Rattle.text_words.specs.Words.{words_of}
use Rattle.text_words.proofs.NumberLemmas.{number_below-decimal_of, decimal_of-number_below}
use Rattle.policy_ctx.specs.Policy.{pad_size, unit_log2}
use Rattle.policy_ctx.specs.Settings.{pad_of_size, unit_of_log2}
use Rattle.policy_ctx.specs.declared.policy.Pad.{Pad}
use Rattle.policy_ctx.specs.declared.policy.Pad.TheVariants.{P4, P8, P16, P32}
use Rattle.policy_ctx.specs.declared.policy.Unit.{Unit as DataUnit}
use Rattle.policy_ctx.specs.declared.policy.Unit.TheVariants.{Block, U512, U1024, U2048, U4096}
use Rattle.protector_meta.specs.PolicyText.{options_line}
use Rattle.protector_meta.specs.PolicyLines.{options_of_words, options_value}
use Rattle.protector_meta.specs.declared.policy_file.Options.{Options}
use Rattle.text_words.proofs.PieceLemmas.{free_of_both, is_free_of, split_at, split_none}
use Rattle.text_words.proofs.WordLemmas.{number_is_free}
use Rattle.protector_meta.proofs.Readers.{Spells}
use Rattle.protector_meta.proofs.SharedLines.{word_spelled}

-- ---- the numbers of paddings and units

pad_again : (pad : Pad) → pad_of_size (pad_size pad) ≡ Some pad
pad_again P4 = refl
pad_again P8 = refl
pad_again P16 = refl
pad_again P32 = refl

unit_again : (unit : DataUnit) → unit_of_log2 (unit_log2 unit) ≡ Some unit
unit_again Block = refl
unit_again U512 = refl
unit_again U1024 = refl
unit_again U2048 = refl
unit_again U4096 = refl

pad_small : (pad : Pad) → pad_size pad < 64
pad_small P4 = lit< tt
pad_small P8 = lit< tt
pad_small P16 = lit< tt
pad_small P32 = lit< tt

unit_small : (unit : DataUnit) → unit_log2 unit < 64
unit_small Block = lit< tt
unit_small U512 = lit< tt
unit_small U1024 = lit< tt
unit_small U2048 = lit< tt
unit_small U4096 = lit< tt

-- a choice is the first value, or is left to the others
chosen : {A : Type 0} (b : Bool) (x : A) (rest : Option A) (y : A) → (let o : Option A = if b then Some x else rest in o ≡ Some y)
    → ((b ≡ true) × (x ≡ y)) ⊎ (rest ≡ Some y)
chosen true x rest y h = inl (refl, same_Some x y h)
chosen false x rest y h = inr h

pad_found : (n : ℕ) (pad : Pad) → pad_of_size n ≡ Some pad → n ≡ pad_size pad
pad_found n pad h =
    ⊎_elim (λ is. eqb-true n 4 is.0 ∙ ap pad_size is.1) (λ h1.
    ⊎_elim (λ is. eqb-true n 8 is.0 ∙ ap pad_size is.1) (λ h2.
    ⊎_elim (λ is. eqb-true n 16 is.0 ∙ ap pad_size is.1) (λ h3.
    ⊎_elim (λ is. eqb-true n 32 is.0 ∙ ap pad_size is.1) (λ h4. absurd (cc h4))
    (chosen (n == 32) P32 None pad h3))
    (chosen (n == 16) P16 (if n == 32 then Some P32 else None) pad h2))
    (chosen (n == 8) P8 (if n == 16 then Some P16 else if n == 32 then Some P32 else None) pad h1))
    (chosen (n == 4) P4 (if n == 8 then Some P8 else if n == 16 then Some P16 else if n == 32 then Some P32 else None) pad h)

unit_found : (n : ℕ) (unit : DataUnit) → unit_of_log2 n ≡ Some unit → n ≡ unit_log2 unit
unit_found n unit h =
    let from_12 : Option DataUnit = if n == 12 then Some U4096 else None in
    let from_11 : Option DataUnit = if n == 11 then Some U2048 else from_12 in
    let from_10 : Option DataUnit = if n == 10 then Some U1024 else from_11 in
    let from_9 : Option DataUnit = if n == 9 then Some U512 else from_10 in
    ⊎_elim (λ is. eqb-true n 0 is.0 ∙ ap unit_log2 is.1) (λ h1.
    ⊎_elim (λ is. eqb-true n 9 is.0 ∙ ap unit_log2 is.1) (λ h2.
    ⊎_elim (λ is. eqb-true n 10 is.0 ∙ ap unit_log2 is.1) (λ h3.
    ⊎_elim (λ is. eqb-true n 11 is.0 ∙ ap unit_log2 is.1) (λ h4.
    ⊎_elim (λ is. eqb-true n 12 is.0 ∙ ap unit_log2 is.1) (λ h5. absurd (cc h5))
    (chosen (n == 12) U4096 None unit h4))
    (chosen (n == 11) U2048 from_12 unit h3))
    (chosen (n == 10) U1024 from_11 unit h2))
    (chosen (n == 9) U512 from_10 unit h1))
    (chosen (n == 0) Block from_9 unit h)

-- ---- the line

module _ (o : Options) where
  abbrev size : List ℕ
  size = decimal_of (pad_size o.pad)

  abbrev log : List ℕ
  log = decimal_of (unit_log2 o.unit)

  free : (c : ℕ) → c < 45 → (is_free_of c size ≡ true) × (is_free_of c log ≡ true)
  free c low =
      (number_is_free c (pad_size o.pad) low (omega (arith, pad_small o.pad)), number_is_free c (unit_log2 o.unit) low (omega (arith, unit_small o.unit)))

  two_words : words_of (size ++ 32 ∷ log) ≡ size ∷ log ∷ []
  two_words = let f = free 32 (lit< tt) in split_at 32 size log f.0 ∙ ap (λ l. size ∷ l) (split_none 32 log f.1)

  words_again : options_of_words (size ∷ log ∷ []) ≡ Some o
  words_again =
      let size_is : number_below (2 ^ 32) size ≡ Some (pad_size o.pad) =
      number_below-decimal_of (2 ^ 32) (pad_size o.pad) (omega (arith, pad_small o.pad)) (omega (arith, pad_small o.pad)) in
      let log_is : number_below (2 ^ 32) log ≡ Some (unit_log2 o.unit) =
      number_below-decimal_of (2 ^ 32) (unit_log2 o.unit) (omega (arith, unit_small o.unit)) (omega (arith, unit_small o.unit)) in
      rw (size_is, log_is, pad_again o.pad, unit_again o.unit) refl

  text_again : options_of_words (words_of (size ++ 32 ∷ log)) ≡ Some o
  text_again = ap options_of_words two_words ∙ words_again

  text_is_free : is_free_of 10 (size ++ 32 ∷ log) ≡ true
  text_is_free = let f = free 10 (lit< tt) in free_of_both 10 size (32 ∷ log) f.0 f.1

-- the options that two words spell
module _ (size log : List ℕ) (o : Options) where
  made : (n m : ℕ) (pad : Option Pad) (unit : Option DataUnit) → number_below (2 ^ 32) size ≡ Some n → number_below (2 ^ 32) log ≡ Some m
      → pad_of_size n ≡ pad → unit_of_log2 m ≡ unit → options_of_words (size ∷ log ∷ []) ≡ Some o → (n ≡ pad_size o.pad) × (m ≡ unit_log2 o.unit)
  made n m (Some pad) (Some unit) en em ep eu h =
      let v : Options = record { pad = pad; unit = unit } in
      let told : options_of_words (size ∷ log ∷ []) ≡ Some v = rw (en, em, ep, eu) refl in
      let same : v ≡ o = same_Some v o (sym told ∙ h) in
      (pad_found n pad ep ∙ ap (λ (x : Options). pad_size x.pad) same, unit_found m unit eu ∙ ap (λ (x : Options). unit_log2 x.unit) same)
  made n m None unit en em ep eu h = absurd (cc (rw (en, em, ep) at h))
  made n m (Some pad) None en em ep eu h = absurd (cc (rw (en, em, ep, eu) at h))

  tell : (a b : Option ℕ) → number_below (2 ^ 32) size ≡ a → number_below (2 ^ 32) log ≡ b → options_of_words (size ∷ log ∷ []) ≡ Some o
      → (size ≡ decimal_of (pad_size o.pad)) × (log ≡ decimal_of (unit_log2 o.unit))
  tell (Some n) (Some m) en em h =
      let are = made n m (pad_of_size n) (unit_of_log2 m) en em refl refl h in
      (decimal_of-number_below (2 ^ 32) size n (omega arith) en ∙ ap decimal_of are.0, decimal_of-number_below (2 ^ 32) log m (omega arith) em ∙ ap decimal_of are.1)
  tell None b en em h = absurd (cc (rw en at h))
  tell (Some n) None en em h = absurd (cc (rw (en, em) at h))

told_words : (words : List (List ℕ)) (o : Options) → options_of_words words ≡ Some o → words ≡ decimal_of (pad_size o.pad) ∷ decimal_of (unit_log2 o.unit) ∷ []
told_words (size ∷ log ∷ []) o h =
    let are = tell size log o (number_below (2 ^ 32) size) (number_below (2 ^ 32) log) refl refl h in
    λ i. are.0 i ∷ are.1 i ∷ []
told_words [] o h = absurd (cc h)
told_words (size ∷ []) o h = absurd (cc h)
told_words (size ∷ log ∷ next ∷ more) o h = absurd (cc h)

some_options : Options
some_options = record { pad = P32; unit = Block }

pub options_spelled : Spells options_value (λ o. Unit {0}) options_line
unfolding options_value
options_spelled = word_spelled (codes "options ") refl (record {
  some = (some_options, tt);
  found = λ text o h. (sym (join_with_byte-slice_split 32 text) ∙ ap (join_with_byte 32) (told_words (words_of text) o h), tt);
  again = λ o _. text_again o;
  free = λ o _. text_is_free o;
})
