-- What a no-key text shows follows from what it decodes to.
use Rattle.std.proofs.Common.{◌≡◌, ◌≢◌, ◌↔◌, sym, ◌∙◌, ap, arith, refl, ℕ, zero, suc, List, ◌++◌, length, take, drop, replicate, ◌≤◌, ◌<◌, Some, None, Bool, IsTrue, false, inl, inr}
use Rattle.std.specs.declared.result.Result.TheVariants.{Ok, Err}
use Rattle.std.specs.Bool.{Decides}
use Rattle.std.proofs.lemmas.Bool.{cases_lt}
use Rattle.std.proofs.lemmas.List.{append_cancel_left}
use Rattle.sha2.specs.Sha256.{digest_bytes, sha256}
use Rattle.std.specs.Prelude.{slice_index}
use Rattle.base64.specs.Engines.{url_safe_no_pad}
use Rattle.base64.specs.GeneralPurpose.{decode_of}
use Rattle.base64.specs.declared.decode.DecodeError.{DecodeError}
use Rattle.base64.proofs.EngineFacts.{decode_of_iff}
use Rattle.byte_words.specs.Bytes.{AreBytes}
use Rattle.byte_words.proofs.AreBytesLemmas.{AreBytes-nil, AreBytes-append, AreBytes-take, AreBytes-zeros, AreBytes-big_endian_bytes}
use Rattle.name_crypt.specs.NoKeyText.{nokey_text_of, visible_bytes, HasVisibleBytes}
use Rattle.name_crypt.proofs.Symbols.{refused}
use Rattle.name_crypt.proofs.TextLemmas.{shown_whole, shown_cut, length-visible_bytes, length-nokey_text_of}

-- ---- a text shows bytes, at most 181

AreBytes-digest_bytes : (h : List ℕ) (n : ℕ) → AreBytes (digest_bytes h n)
unfolding digest_bytes
AreBytes-digest_bytes h zero = AreBytes-nil
AreBytes-digest_bytes h (suc n) = AreBytes-append _ _ (AreBytes-digest_bytes h n) (AreBytes-big_endian_bytes 4 (slice_index h n))

AreBytes-sha256 : (message : List ℕ) → AreBytes (sha256 message)
unfolding sha256
AreBytes-sha256 message = AreBytes-digest_bytes _ 8

AreBytes-visible_bytes : (stored : List ℕ) → AreBytes stored → AreBytes (visible_bytes stored)
AreBytes-visible_bytes stored bytes = elim (cases_lt 149 (length stored)) [
  | inl many ↦ rw (shown_cut stored many) (AreBytes-append (take 149 stored) (sha256 (drop 149 stored)) (AreBytes-take 149 stored bytes) (AreBytes-sha256 (drop 149 stored)))
  | inr few ↦ rw (shown_whole stored few) bytes
]

pub length-shown : (stored : List ℕ) → length (visible_bytes stored) ≤ 181
length-shown stored = elim (cases_lt 149 (length stored)) [
  | inl many ↦ omega (arith, length-visible_bytes stored many)
  | inr few ↦ rw (shown_whole stored few) (omega (arith, few))
]

-- ---- a text that no stored name has

pub no_text : (text : List ℕ) → ((stored : List ℕ) → AreBytes stored → text ≢ nokey_text_of stored) → HasVisibleBytes text None
no_text text never stored bytes = (λ is. absurd (never stored bytes is), λ (bad : None ≡ Some (visible_bytes stored)). absurd (cc))

pub too_long : (text : List ℕ) → 252 < length text → HasVisibleBytes text None
too_long text long = no_text text (λ stored bytes is. omega (arith, long, ap length is, length-nokey_text_of stored, length-shown stored))

-- ---- a text that decodes, and one that doesn't

module _ (text : List ℕ) (ranged : AreBytes text) where
  tells : (stored : List ℕ) → AreBytes stored → (decode_of url_safe_no_pad text ≡ Ok (replicate 8 0 ++ visible_bytes stored)) ↔ (text ≡ nokey_text_of stored)
  tells stored bytes = decode_of_iff url_safe_no_pad text (replicate 8 0 ++ visible_bytes stored) (refl, refl) ranged (AreBytes-append (replicate 8 0) (visible_bytes stored) (AreBytes-zeros 8) (AreBytes-visible_bytes stored bytes))

  pub undecoded : (e : DecodeError) → decode_of url_safe_no_pad text ≡ Err e → HasVisibleBytes text None
  undecoded e is = no_text text (λ stored bytes same.
      let both = sym is ∙ (tells stored bytes).1 same in
      absurd (cc both))

  module _ (d : List ℕ) (is : decode_of url_safe_no_pad text ≡ Ok d) where
    decoded : (stored : List ℕ) → AreBytes stored → text ≡ nokey_text_of stored → d ≡ replicate 8 0 ++ visible_bytes stored
    decoded stored bytes same =
        let both = sym is ∙ (tells stored bytes).1 same in
        cc both

    pub unzeroed : ((rest : List ℕ) → d ≢ replicate 8 0 ++ rest) → HasVisibleBytes text None
    unzeroed never = no_text text (λ stored bytes same. never (visible_bytes stored) (decoded stored bytes same))

    pub shown : (x : List ℕ) → d ≡ replicate 8 0 ++ x → HasVisibleBytes text (Some x)
    shown x zeroed stored bytes = (
      λ same. ap Some (append_cancel_left (replicate 8 0) x (visible_bytes stored) (sym zeroed ∙ decoded stored bytes same)),
      λ (same : Some x ≡ Some (visible_bytes stored)).
          let here : x ≡ visible_bytes stored = cc same in
          (tells stored bytes).0 (is ∙ ap Ok (zeroed ∙ ap (λ l. replicate 8 0 ++ l) here)),
    )

-- ---- a long name

module _ (stored shown spelled : List ℕ) (long : 149 < length stored) (front : spelled ≡ take 149 stored) where
  pub long_shown : (rest hashed : List ℕ) (b : Bool) → hashed ≡ drop 149 stored → shown ≡ spelled ++ rest → Decides b (rest ≡ sha256 hashed)
      → (IsTrue b → shown ≡ visible_bytes stored) × (shown ≡ visible_bytes stored → IsTrue b)
  long_shown rest hashed b back begins same =
      let cut : visible_bytes stored ≡ spelled ++ sha256 hashed = shown_cut stored long ∙ (λ i. sym front i ++ sha256 (sym back i)) in (
        λ yes. begins ∙ (ap (λ l. spelled ++ l) (same.0 yes) ∙ sym cut),
        λ is. same.1 (append_cancel_left spelled rest (sha256 hashed) (sym begins ∙ (is ∙ cut))),
      )

  pub long_other : ((rest : List ℕ) → shown ≢ spelled ++ rest) → (IsTrue false → shown ≡ visible_bytes stored) × (shown ≡ visible_bytes stored → IsTrue false)
  long_other never = refused (shown ≡ visible_bytes stored)
      (λ is. never (sha256 (drop 149 stored)) (is ∙ (shown_cut stored long ∙ ap (λ l. l ++ sha256 (drop 149 stored)) (sym front))))
