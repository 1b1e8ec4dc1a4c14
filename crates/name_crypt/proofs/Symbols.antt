-- The symbols of bytes, group by group: three bytes make four symbols.
use Rattle.std.proofs.Common.{◌≡◌, sym, ◌∙◌, ap, arith, ℕ, List, ◌++◌, length, take, drop, ◌+◌, ◌*◌, ◌/◌, ◌%◌, ◌<◌, ◌≤◌, ◌↔◌, IsTrue, false, replicate, take-add}
use mathlib.Core.Bool.{true≢false}
use Rattle.std.proofs.lemmas.List.{take_at, drop_at, take-append-drop, drop-drop, append_assoc, append-nil, length-append, length-take-le}
use Rattle.sha2.specs.Sha256.{sha256}
use Rattle.base64.specs.Engines.{url_safe_no_pad}
use Rattle.base64.specs.Rfc4648.{encode_symbols}
use Rattle.base64.specs.GeneralPurpose.{encode_of}
use Rattle.base64.proofs.Canonical.{encode_symbols-append}
use Rattle.base64.proofs.RoundTrip.{length-encode_symbols}

-- the symbols of the bytes
abbrev pub symbols_of : List ℕ → List ℕ
symbols_of bytes = encode_of url_safe_no_pad bytes

pub length-symbols_of : (bytes : List ℕ) → length (symbols_of bytes) ≡ (4 * length bytes + 2) / 3
length-symbols_of bytes = ap length (append-nil (encode_symbols url_safe_no_pad.encode_table bytes)) ∙ length-encode_symbols url_safe_no_pad.encode_table bytes

pub symbols_of-append : (xs ys : List ℕ) → length xs % 3 ≡ 0 → symbols_of (xs ++ ys) ≡ symbols_of xs ++ symbols_of ys
symbols_of-append xs ys groups =
    append-nil (encode_symbols url_safe_no_pad.encode_table (xs ++ ys))
    ∙ encode_symbols-append url_safe_no_pad.encode_table xs ys groups
    ∙ (λ i. sym (append-nil (encode_symbols url_safe_no_pad.encode_table xs)) i ++ sym (append-nil (encode_symbols url_safe_no_pad.encode_table ys)) i)

-- the symbols of the first g groups, and of the bytes after them
pub symbols_split : (bytes : List ℕ) (g : ℕ) → 3 * g ≤ length bytes
    → symbols_of bytes ≡ symbols_of (take (3 * g) bytes) ++ symbols_of (drop (3 * g) bytes)
symbols_split bytes g fits =
    let long : length (take (3 * g) bytes) ≡ 3 * g = length-take-le (3 * g) bytes fits in
    ap symbols_of (sym (take-append-drop (3 * g) bytes)) ∙ symbols_of-append (take (3 * g) bytes) (drop (3 * g) bytes) (omega (arith, long))

pub length-symbols_take : (bytes : List ℕ) (g : ℕ) → 3 * g ≤ length bytes → length (symbols_of (take (3 * g) bytes)) ≡ 4 * g
length-symbols_take bytes g fits =
    length-symbols_of (take (3 * g) bytes) ∙ ap (λ n. (4 * n + 2) / 3) (length-take-le (3 * g) bytes fits) ∙ omega arith

-- of a text that is the bytes' symbols, the first symbols are those of the first groups ..
pub take-symbols : (text bytes : List ℕ) (g : ℕ) → 3 * g ≤ length bytes → text ≡ symbols_of bytes
    → take (4 * g) text ≡ symbols_of (take (3 * g) bytes)
take-symbols text bytes g fits is =
    ap (λ l. take (4 * g) l) (is ∙ symbols_split bytes g fits)
    ∙ take_at (symbols_of (take (3 * g) bytes)) (symbols_of (drop (3 * g) bytes)) (4 * g) (length-symbols_take bytes g fits)

-- .. and the others those of the other bytes
pub drop-symbols : (text bytes : List ℕ) (g : ℕ) → 3 * g ≤ length bytes → text ≡ symbols_of bytes
    → drop (4 * g) text ≡ symbols_of (drop (3 * g) bytes)
drop-symbols text bytes g fits is =
    ap (λ l. drop (4 * g) l) (is ∙ symbols_split bytes g fits)
    ∙ drop_at (symbols_of (take (3 * g) bytes)) (symbols_of (drop (3 * g) bytes)) (4 * g) (length-symbols_take bytes g fits)

-- both together are the bytes' symbols
pub symbols_join : (text bytes : List ℕ) (g : ℕ) → 3 * g ≤ length bytes
    → take (4 * g) text ≡ symbols_of (take (3 * g) bytes) → drop (4 * g) text ≡ symbols_of (drop (3 * g) bytes) → text ≡ symbols_of bytes
symbols_join text bytes g fits front back =
    sym (take-append-drop (4 * g) text) ∙ (λ i. front i ++ back i) ∙ sym (symbols_split bytes g fits)

-- more than 24 bytes have at least 32 symbols
pub symbols_fill : (text bytes : List ℕ) → 24 < length bytes → text ≡ symbols_of bytes → 32 ≤ length text
symbols_fill text bytes more is = omega (arith, ap length is, length-symbols_of bytes, more)

-- after one block of 24 bytes the result for the rest is still the result for the whole
pub next_block : (whole_text whole text bytes later_text later : List ℕ) → 24 < length bytes
    → (whole_text ≡ symbols_of whole) ↔ (text ≡ symbols_of bytes) → take 32 text ≡ symbols_of (take 24 bytes)
    → later_text ≡ drop 32 text → later ≡ drop 24 bytes → (whole_text ≡ symbols_of whole) ↔ (later_text ≡ symbols_of later)
next_block whole_text whole text bytes later_text later more same front et eb = (
  λ is. et ∙ drop-symbols text bytes 8 (omega arith) (same.0 is) ∙ ap symbols_of (sym eb),
  λ is. same.1 (symbols_join text bytes 8 (omega arith) front (sym et ∙ is ∙ ap symbols_of eb)),
)

-- the result `false` is right if the fact is false
pub refused : (P : Type 0) → (P → ⊥) → (IsTrue false → P) × (P → IsTrue false)
refused P differs = (λ e. absurd (true≢false (sym e)), λ p. absurd (differs p))

-- a text of symbols in two parts, of which the first is that of 52 groups
pub record InParts (text front back xs ys : List ℕ) : Type 0 where
  pub first : text ≡ symbols_of (xs ++ ys) → front ≡ symbols_of xs
  pub second : text ≡ symbols_of (xs ++ ys) → back ≡ symbols_of ys
  pub both : front ≡ symbols_of xs → back ≡ symbols_of ys → text ≡ symbols_of (xs ++ ys)
  pub reach : text ≡ symbols_of (xs ++ ys) → 208 ≤ length text

pub in_parts : (text front back xs ys : List ℕ) → length xs ≡ 156 → front ≡ take 208 text → back ≡ drop 208 text → InParts text front back xs ys
in_parts text front back xs ys size ef eb =
    let split : symbols_of (xs ++ ys) ≡ symbols_of xs ++ symbols_of ys = symbols_of-append xs ys (omega (arith, size)) in
    let long : length (symbols_of xs) ≡ 208 = omega (arith, length-symbols_of xs, size) in
    record {
      first = λ is. ef ∙ ap (λ l. take 208 l) (is ∙ split) ∙ take_at (symbols_of xs) (symbols_of ys) 208 long;
      second = λ is. eb ∙ ap (λ l. drop 208 l) (is ∙ split) ∙ drop_at (symbols_of xs) (symbols_of ys) 208 long;
      both = λ f b. sym (take-append-drop 208 text) ∙ (λ i. (sym ef ∙ f) i ++ (sym eb ∙ b) i) ∙ sym split;
      reach = λ is. omega (arith, ap length is, length-symbols_of (xs ++ ys), length-append xs ys, size);
    }

-- the bytes that the no-key text of a long stored name encodes, divided after 52 groups
pub long_source : (stored : List ℕ) → 149 < length stored
    → replicate 8 0 ++ (take 149 stored ++ sha256 (drop 149 stored))
    ≡ (replicate 8 0 ++ take 148 stored) ++ (take 1 (drop 148 stored) ++ sha256 (drop 1 (drop 148 stored)))
long_source stored long =
    let spelled : take 149 stored ≡ take 148 stored ++ take 1 (drop 148 stored) = take-add 148 1 stored in
    let hashed : drop 149 stored ≡ drop 1 (drop 148 stored) = sym (drop-drop 1 148 stored) in
    (λ i. replicate 8 0 ++ (spelled i ++ sha256 (hashed i)))
    ∙ ap (λ l. replicate 8 0 ++ l) (append_assoc (take 148 stored) (take 1 (drop 148 stored)) (sha256 (drop 1 (drop 148 stored))))

pub long_text : (text stored front back first others : List ℕ) → 149 < length stored → front ≡ take 208 text → back ≡ drop 208 text
    → first ≡ take 148 stored → others ≡ drop 148 stored
    → (InParts text front back (replicate 8 0 ++ first) (take 1 others ++ sha256 (drop 1 others)))
    × (replicate 8 0 ++ (take 149 stored ++ sha256 (drop 149 stored)) ≡ (replicate 8 0 ++ first) ++ (take 1 others ++ sha256 (drop 1 others)))
long_text text stored front back first others long ef eb e1 e2 =
    let size : length (replicate 8 0 ++ first) ≡ 156 = omega (arith, ap length e1, length-take-le 148 stored (omega (arith, long))) in (
      in_parts text front back (replicate 8 0 ++ first) (take 1 others ++ sha256 (drop 1 others)) size ef eb,
      long_source stored long ∙ (λ i. (replicate 8 0 ++ sym e1 i) ++ (take 1 (sym e2 i) ++ sha256 (drop 1 (sym e2 i)))),
    )
