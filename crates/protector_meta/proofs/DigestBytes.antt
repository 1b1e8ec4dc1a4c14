-- The first 8 numbers of a digest of SHA-512 are bytes.
use Rattle.std.proofs.Common.{ℕ, zero, suc, ◌<◌, List, [], ◌∷◌, ◌++◌, take, arith, inl, inr}
use Rattle.std.specs.Int.{byte_at, bytes_high_first}
use Rattle.std.proofs.lemmas.Bool.{cases_lt}
use Rattle.std.proofs.lemmas.List.{get_or-take, get_or_past, length-take}
use Rattle.hex.specs.Hex.{IsBytes}
use Rattle.sha2.specs.Sha512.{digest_bytes, sha512}

IsBytes-cons : (x : ℕ) (xs : List ℕ) → x < 256 → IsBytes xs → IsBytes (x ∷ xs)
IsBytes-cons x xs h hs zero = h
IsBytes-cons x xs h hs (suc i) = hs i

IsBytes-append : (xs ys : List ℕ) → IsBytes xs → IsBytes ys → IsBytes (xs ++ ys)
IsBytes-append [] ys hx hy = hy
IsBytes-append (x ∷ xs) ys hx hy = IsBytes-cons x (xs ++ ys) (hx 0) (IsBytes-append xs ys (λ j. hx (suc j)) hy)

IsBytes-take : (n : ℕ) (bytes : List ℕ) → IsBytes bytes → IsBytes (take n bytes)
IsBytes-take n bytes h i =
    elim (cases_lt i n) [
      | inl lt ↦ rw (get_or-take n bytes i 0 lt) (h i)
      | inr le ↦ rw (get_or_past (take n bytes) i 0 (omega (arith, length-take n bytes))) (omega arith)
    ]

IsBytes-nil : IsBytes []
IsBytes-nil i = omega arith

byte_at-small : (k n : ℕ) → byte_at k n < 256
byte_at-small zero n = omega arith
byte_at-small (suc k) n = omega arith

IsBytes-high_first : (k n : ℕ) → IsBytes (bytes_high_first k n)
IsBytes-high_first zero n = IsBytes-nil
IsBytes-high_first (suc k) n = IsBytes-cons (byte_at k n) (bytes_high_first k n) (byte_at-small k n) (IsBytes-high_first k n)

IsBytes-digest_bytes : (h : List ℕ) (n : ℕ) → IsBytes (digest_bytes h n)
unfolding digest_bytes
IsBytes-digest_bytes h zero = IsBytes-nil
IsBytes-digest_bytes h (suc n) = IsBytes-append _ _ (IsBytes-digest_bytes h n) (IsBytes-high_first 8 _)

pub first_digest_bytes : (message : List ℕ) → IsBytes (take 8 (sha512 message))
unfolding sha512
first_digest_bytes message = IsBytes-take 8 _ (IsBytes-digest_bytes _ 8)
