-- The no-key texts of stored names that are spelled whole.
use Rattle.std.proofs.Common.{◌≡◌, sym, ◌∙◌, ap, arith, refl, ℕ, List, ◌++◌, length, take, drop, replicate, ◌+◌, ◌*◌, ◌/◌, ◌<◌, ◌≤◌}
use Rattle.std.proofs.lemmas.List.{append_cancel_left, length-append, length-take-le}
use Rattle.std.proofs.lemmas.Bool.{le-leb, lt-leb}
use Rattle.sha2.specs.Sha256.{sha256}
use Rattle.sha2.proofs.Facts256.{length-sha256}
use Rattle.base64.specs.Engines.{url_safe_no_pad}
use Rattle.base64.specs.GeneralPurpose.{decode_of}
use Rattle.base64.proofs.EngineFacts.{decode_of-encode_of}
use Rattle.byte_words.specs.Bytes.{AreBytes}
use Rattle.byte_words.proofs.AreBytesLemmas.{AreBytes-append, AreBytes-zeros}
use Rattle.name_crypt.specs.NoKeyText.{nokey_text_of, visible_bytes}
use Rattle.name_crypt.proofs.Symbols.{symbols_of, length-symbols_of}

-- different bytes have different symbols
same_symbols : (xs ys : List ℕ) → AreBytes xs → AreBytes ys → symbols_of xs ≡ symbols_of ys → xs ≡ ys
same_symbols xs ys left right same =
    let both = sym (decode_of-encode_of url_safe_no_pad xs refl left) ∙ ap (decode_of url_safe_no_pad) same ∙ decode_of-encode_of url_safe_no_pad ys refl right in
    cc both

-- a stored name of at most 149 bytes is shown whole; of a longer one 181 bytes are shown
pub shown_whole : (stored : List ℕ) → length stored ≤ 149 → visible_bytes stored ≡ stored
shown_whole stored few = rw (le-leb (length stored) 149 few) refl

pub shown_cut : (stored : List ℕ) → 149 < length stored → visible_bytes stored ≡ take 149 stored ++ sha256 (drop 149 stored)
shown_cut stored many = rw (lt-leb (length stored) 149 many) refl

pub length-visible_bytes : (stored : List ℕ) → 149 < length stored → length (visible_bytes stored) ≡ 181
length-visible_bytes stored many =
    rw (lt-leb (length stored) 149 many)
    (length-append (take 149 stored) (sha256 (drop 149 stored))
    ∙ omega (arith, length-take-le 149 stored (omega arith), length-sha256 (drop 149 stored)))

pub length-nokey_text_of : (stored : List ℕ) → length (nokey_text_of stored) ≡ (4 * (8 + length (visible_bytes stored)) + 2) / 3
length-nokey_text_of stored =
    length-symbols_of (replicate 8 0 ++ visible_bytes stored)
    ∙ ap (λ n. (4 * n + 2) / 3) (length-append (replicate 8 0) (visible_bytes stored))

pub short_texts : (a b : List ℕ) → AreBytes a → AreBytes b → length a ≤ 149 → length b ≤ 149 → nokey_text_of a ≡ nokey_text_of b → a ≡ b
short_texts a b left right a_few b_few same =
    let texts : symbols_of (replicate 8 0 ++ a) ≡ symbols_of (replicate 8 0 ++ b)
    = ap (λ xs. symbols_of (replicate 8 0 ++ xs)) (sym (shown_whole a a_few)) ∙ same ∙ ap (λ xs. symbols_of (replicate 8 0 ++ xs)) (shown_whole b b_few) in
    append_cancel_left (replicate 8 0) a b
    (same_symbols (replicate 8 0 ++ a) (replicate 8 0 ++ b) (AreBytes-append (replicate 8 0) a (AreBytes-zeros 8) left) (AreBytes-append (replicate 8 0) b (AreBytes-zeros 8) right) texts)

pub long_texts : (a b : List ℕ) → length a ≤ 149 → 149 < length b → ¬ (nokey_text_of a ≡ nokey_text_of b)
long_texts a b few many = λ same.
    omega (arith, ap length same, length-nokey_text_of a, length-nokey_text_of b, ap length (shown_whole a few), length-visible_bytes b many)
