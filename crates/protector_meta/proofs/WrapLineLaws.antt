-- The line of a wrap is read as the wrap, and no other line is.
use Rattle.std.proofs.Common.{◌≡◌, ℕ, true, List, [], ◌∷◌, ◌++◌, replicate, Option, Some, None, refl, sym, ap, ◌∙◌, arith}
use Rattle.std.specs.Prelude.{codes}
use Rattle.std.proofs.lemmas.Option.{same_Some}
use Rattle.hex.specs.Hex.{encode_lower}
use Rattle.text_words.specs.Digits.{lower_hex_bytes_of_length}
use Rattle.text_words.specs.Words.{words_of}
use Rattle.short_bytes.specs.Label.{label_of}
use Rattle.short_bytes.proofs.LabelLemmas.{label_of-label, label_of-found}
use Rattle.protector_meta.specs.PolicyText.{wrap_line}
use Rattle.protector_meta.specs.PolicyRecords.{IsWrap}
use Rattle.protector_meta.specs.WrapLines.{wrap_of_words, wrap_value}
use Rattle.protector_meta.specs.declared.wraps.Wrap.{Wrap}
use Rattle.text_words.proofs.PieceLemmas.{is_free_of}
use Rattle.text_words.proofs.WordLemmas.{digits_again, digits_are_free, digits_found}
use Rattle.protector_meta.proofs.WordLaws.{label_is_free}
use Rattle.protector_meta.proofs.Readers.{Spells}
use Rattle.protector_meta.proofs.SharedLines.{word_spelled, zeros}
use Rattle.protector_meta.proofs.FourWords.{four_words_again, four_words_are_free, four_words_found}

module _ (w : Wrap) (is : IsWrap w) where
  wrap_words_again : wrap_of_words (w.protector ∷ encode_lower w.iv ∷ encode_lower w.key ∷ encode_lower w.tag ∷ []) ≡ Some w
  wrap_words_again =
      rw (label_of-label w.protector is.protector, digits_again 16 w.iv is.iv.0 is.iv.1, digits_again 64 w.key is.key.0 is.key.1, digits_again 32 w.tag is.tag.0 is.tag.1) refl

  wrap_words_of : words_of (w.protector ++ 32 ∷ (encode_lower w.iv ++ 32 ∷ (encode_lower w.key ++ 32 ∷ encode_lower w.tag)))
      ≡ w.protector ∷ encode_lower w.iv ∷ encode_lower w.key ∷ encode_lower w.tag ∷ []
  wrap_words_of = four_words_again w.protector (encode_lower w.iv) (encode_lower w.key) (encode_lower w.tag)
      (label_is_free 32 w.protector (omega arith) is.protector) (digits_are_free 32 w.iv (omega arith) is.iv.1)
      (digits_are_free 32 w.key (omega arith) is.key.1) (digits_are_free 32 w.tag (omega arith) is.tag.1)

  text_again : wrap_of_words (words_of (w.protector ++ 32 ∷ (encode_lower w.iv ++ 32 ∷ (encode_lower w.key ++ 32 ∷ encode_lower w.tag)))) ≡ Some w
  text_again = ap wrap_of_words wrap_words_of ∙ wrap_words_again

  text_is_free : is_free_of 10 (w.protector ++ 32 ∷ (encode_lower w.iv ++ 32 ∷ (encode_lower w.key ++ 32 ∷ encode_lower w.tag))) ≡ true
  text_is_free =
      four_words_are_free w.protector (encode_lower w.iv) (encode_lower w.key) (encode_lower w.tag) (label_is_free 10 w.protector (omega arith) is.protector)
      (digits_are_free 10 w.iv (omega arith) is.iv.1) (digits_are_free 10 w.key (omega arith) is.key.1) (digits_are_free 10 w.tag (omega arith) is.tag.1)

-- the wrap that four words spell
module _ (label iv key tag : List ℕ) (w : Wrap) where
  tell : (l i k t : Option (List ℕ)) → label_of label ≡ l → lower_hex_bytes_of_length 16 iv ≡ i → lower_hex_bytes_of_length 64 key ≡ k → lower_hex_bytes_of_length 32 tag ≡ t
      → wrap_of_words (label ∷ iv ∷ key ∷ tag ∷ []) ≡ Some w
      → (label_of label ≡ Some w.protector) × ((lower_hex_bytes_of_length 16 iv ≡ Some w.iv) × ((lower_hex_bytes_of_length 64 key ≡ Some w.key) × (lower_hex_bytes_of_length 32 tag ≡ Some w.tag)))
  tell (Some l) (Some i) (Some k) (Some t) el ei ek et h =
      let v : Wrap = record { protector = l; iv = i; key = k; tag = t } in
      let told : wrap_of_words (label ∷ iv ∷ key ∷ tag ∷ []) ≡ Some v = rw (el, ei, ek, et) refl in
      let same : v ≡ w = same_Some v w (sym told ∙ h) in (
        el ∙ ap (λ (x : Wrap). Some x.protector) same,
        (ei ∙ ap (λ (x : Wrap). Some x.iv) same, (ek ∙ ap (λ (x : Wrap). Some x.key) same, et ∙ ap (λ (x : Wrap). Some x.tag) same)),
      )
  tell None i k t el ei ek et h = absurd (cc (rw el at h))
  tell (Some l) None k t el ei ek et h = absurd (cc (rw (el, ei) at h))
  tell (Some l) (Some i) None t el ei ek et h = absurd (cc (rw (el, ei, ek) at h))
  tell (Some l) (Some i) (Some k) None el ei ek et h = absurd (cc (rw (el, ei, ek, et) at h))

told_words : (words : List (List ℕ)) (w : Wrap) → wrap_of_words words ≡ Some w
    → (words ≡ w.protector ∷ encode_lower w.iv ∷ encode_lower w.key ∷ encode_lower w.tag ∷ []) × IsWrap w
told_words (label ∷ iv ∷ key ∷ tag ∷ []) w h =
    let parts = tell label iv key tag w _ _ _ _ refl refl refl refl h in
    let l = label_of-found label w.protector parts.0 in
    let i = digits_found 16 iv w.iv parts.1.0 in
    let k = digits_found 64 key w.key parts.1.1.0 in
    let t = digits_found 32 tag w.tag parts.1.1.1 in
    let e₁ = l.0 in
    let e₂ = i.0 in
    let e₃ = k.0 in
    let e₄ = t.0 in
    (rw (e₁, e₂, e₃, e₄) refl, record { protector = l.1; iv = (i.1, i.2); key = (k.1, k.2); tag = (t.1, t.2) })
told_words [] w h = absurd (cc h)
told_words (label ∷ []) w h = absurd (cc h)
told_words (label ∷ iv ∷ []) w h = absurd (cc h)
told_words (label ∷ iv ∷ key ∷ []) w h = absurd (cc h)
told_words (label ∷ iv ∷ key ∷ tag ∷ next ∷ more) w h = absurd (cc h)

-- a first wrap
pub zero_wrap : Wrap
zero_wrap = record { protector = codes "a"; iv = replicate 16 0; key = replicate 64 0; tag = replicate 32 0 }

pub zero_wrap_is : IsWrap zero_wrap
unfolding zero_wrap
zero_wrap_is = record { protector = refl; iv = zeros 16; key = zeros 64; tag = zeros 32 }

pub wrap_spelled : Spells wrap_value IsWrap wrap_line
unfolding wrap_value
wrap_spelled = word_spelled (codes "wrap ") refl (record {
  some = (zero_wrap, zero_wrap_is);
  found = λ text w h.
      let told = told_words (words_of text) w h in
      (four_words_found text w.protector (encode_lower w.iv) (encode_lower w.key) (encode_lower w.tag) told.0, told.1);
  again = text_again;
  free = text_is_free;
})
