-- An array that begins with some bytes and is zero after them.
use Rattle.std.proofs.Common.{◌≡◌, sym, ◌∙◌, ap, subst, arith, ℕ, List, ◌++◌, length, take, drop, replicate, ◌+◌, ◌-◌, ◌≤◌}
use Rattle.std.proofs.lemmas.List.{take_at, drop_at, drop-drop, take-append-drop, length-append, length-drop, length-replicate, length-take-le, drop-replicate, take-replicate}
use Rattle.std.proofs.lemmas.Slice.{take-put_mid, drop-put_mid}
use borrow.Rule.Slice.PartMut.{put_mid}
use Rattle.byte_words.specs.Bytes.{AreBytes}
use Rattle.byte_words.proofs.AreBytesLemmas.{AreBytes-append, AreBytes-take, AreBytes-drop, AreBytes-zeros}

-- what the type of such arrays requires of its fields, once the bytes are written over zeros
pub filled : (n len : ℕ) (bytes : List ℕ) → length bytes ≡ len → len ≤ n → AreBytes bytes
    → (len ≤ n) × (length (bytes ++ drop len (replicate n 0)) ≡ n)
    × (bytes ++ drop len (replicate n 0) ≡ take len (bytes ++ drop len (replicate n 0)) ++ replicate (n - len) 0)
    × AreBytes (bytes ++ drop len (replicate n 0))
filled n len bytes size fits ranged =
    let rest : drop len (replicate {A = ℕ} n 0) ≡ replicate (n - len) 0 = drop-replicate len n 0 in
    let whole : length (bytes ++ drop len (replicate n 0)) ≡ n =
    length-append bytes (drop len (replicate n 0)) ∙ (λ i. size i + length (rest i)) ∙ ap (λ k. len + k) (length-replicate {A = ℕ} (n - len) 0) ∙ omega arith in
    let same : bytes ++ drop len (replicate n 0) ≡ take len (bytes ++ drop len (replicate n 0)) ++ replicate (n - len) 0 =
    rw (take_at bytes (drop len (replicate n 0)) len size) (ap (λ l. bytes ++ l) rest) in
    (fits, whole, same, AreBytes-append bytes (drop len (replicate n 0)) ranged (subst AreBytes (sym rest) (AreBytes-zeros (n - len))))

-- and of an array of zeros alone
pub wiped : (n len : ℕ) → len ≤ n
    → (len ≤ n) × (length {A = ℕ} (replicate n 0) ≡ n) × (replicate {A = ℕ} n 0 ≡ take len (replicate n 0) ++ replicate (n - len) 0) × AreBytes (replicate n 0)
wiped n len fits =
    let front : take len (replicate {A = ℕ} n 0) ≡ replicate len 0 = take-replicate len n 0 fits in
    let back : drop len (replicate {A = ℕ} n 0) ≡ replicate (n - len) 0 = drop-replicate len n 0 in
    let joined : replicate {A = ℕ} n 0 ≡ take len (replicate n 0) ++ replicate (n - len) 0 =
    sym (take-append-drop len (replicate n 0)) ∙ ap (λ l. take len (replicate n 0) ++ l) back in
    (fits, length-replicate {A = ℕ} n 0, joined, AreBytes-zeros n)

-- the places after the bytes are zero
zeros_behind : (n len : ℕ) (places : List ℕ) → len ≤ n → length places ≡ n → places ≡ take len places ++ replicate (n - len) 0
    → drop len places ≡ replicate (n - len) 0
zeros_behind n len places fits size same =
    ap (λ l. drop len l) same ∙ drop_at (take len places) (replicate (n - len) 0) len (length-take-le len places (omega arith))

-- the array after more bytes were appended
pub appended_front : (len k more : ℕ) (places ys : List ℕ) → len ≤ length places → length ys ≡ more
    → take (len + more) (put_mid len k places ys) ≡ take len places ++ ys
appended_front len k more places ys fits size = take-put_mid len k places ys (len + more) (omega (arith, size)) fits

pub appended : (n len k more : ℕ) (places ys : List ℕ) → len + more ≤ n → length places ≡ n
    → places ≡ take len places ++ replicate (n - len) 0 → length ys ≡ more → k ≡ more → AreBytes places → AreBytes ys
    → (len + more ≤ n) × (length (put_mid len k places ys) ≡ n)
    × (put_mid len k places ys ≡ take (len + more) (put_mid len k places ys) ++ replicate (n - (len + more)) 0)
    × AreBytes (put_mid len k places ys)
appended n len k more places ys fits whole same size part before ranged =
    let behind : drop (len + more) (put_mid len k places ys) ≡ replicate (n - (len + more)) 0 =
    drop-put_mid len k places ys (len + more) (omega (arith, part)) (omega (arith, whole, fits)) (size ∙ sym part)
    ∙ sym (drop-drop more len places)
    ∙ ap (λ l. drop more l) (zeros_behind n len places (omega (arith, fits)) whole same)
    ∙ drop-replicate more (n - len) 0
    ∙ ap (λ m. replicate m 0) (omega arith) in
    let joined : put_mid len k places ys ≡ take (len + more) (put_mid len k places ys) ++ replicate (n - (len + more)) 0 =
    sym (take-append-drop (len + more) (put_mid len k places ys)) ∙ ap (λ l. take (len + more) (put_mid len k places ys) ++ l) behind in
    let long : length (put_mid len k places ys) ≡ n =
    omega (
      arith,
      whole,
      fits,
      size,
      part,
      length-append (take len places) (ys ++ drop k (drop len places)),
      length-append ys (drop k (drop len places)),
      length-take-le len places (omega (arith, whole, fits)),
      length-drop k (drop len places),
      length-drop len places,
    ) in (
      fits,
      long,
      joined,
      AreBytes-append (take len places) (ys ++ drop k (drop len places)) (AreBytes-take len places before)
          (AreBytes-append ys (drop k (drop len places)) ranged (AreBytes-drop k (drop len places) (AreBytes-drop len places before))),
    )
