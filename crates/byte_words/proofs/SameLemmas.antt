-- A comparison that gathers the differences of all bytes.
use Rattle.std.proofs.Common.{◌≡◌, ℕ, ◌+◌, ◌<◌, List, length, get_or, Bool, true, false, refl, ap, sym, ◌∙◌, arith, inl, inr}
use Rattle.std.proofs.lemmas.Bool.{eqb-true, eq-eqb}
use Rattle.std.proofs.lemmas.Bool.{cases_eq}
use Rattle.std.proofs.lemmas.List.{ext_get_or}
use Rattle.std.proofs.lemmas.Nat.{le_or_l, le_or_r}
use Rattle.std.proofs.lemmas.Slice.Eq.{bytes_eq-Decides}
use Rattle.std.specs.Prelude.{◌==◌, bit_or, bit_xor, Decides}
use Rattle.std.specs.Int.Bits.{xor_self, xor_zero_l, xor_zero_r, xor_assoc, or_zero_l}
use Rattle.std.specs.Str.{bytes_eq}

-- the difference is zero exactly when the first n bytes are the same
pub record IsDifference (one other : List ℕ) (n difference : ℕ) : Type 0 where
  pub none : difference ≡ 0 → (k : ℕ) → k < n → get_or one k 0 ≡ get_or other k 0
  pub same : ((k : ℕ) → k < n → get_or one k 0 ≡ get_or other k 0) → difference ≡ 0

pub IsDifference-start : (one other : List ℕ) → IsDifference one other 0 0
IsDifference-start one other = record { none = λ _ k low. absurd (omega arith); same = λ _. refl }

xor_none : (x y : ℕ) → bit_xor x y ≡ 0 → x ≡ y
xor_none x y e =
    sym (xor_zero_r x) ∙ ap (λ z. bit_xor x z) (sym (xor_self y)) ∙ sym (xor_assoc x y y) ∙ ap (λ z. bit_xor z y) e ∙ xor_zero_l y

left_none : (a b : ℕ) → bit_or a b ≡ 0 → a ≡ 0
left_none a b e = omega (arith, le_or_l a b)

right_none : (a b : ℕ) → bit_or a b ≡ 0 → b ≡ 0
right_none a b e = omega (arith, le_or_r a b)

-- one byte more
pub IsDifference-more : (one other : List ℕ) (n difference : ℕ) → IsDifference one other n difference →
    IsDifference one other (n + 1) (bit_or difference (bit_xor (get_or one n 0) (get_or other n 0)))
IsDifference-more one other n difference is = record {
  none = λ e k low. elim (cases_eq k n) [
    | inl here ↦
        ap (λ j. get_or one j 0) here ∙ xor_none (get_or one n 0) (get_or other n 0) (right_none difference (bit_xor (get_or one n 0) (get_or other n 0)) e)
        ∙ ap (λ j. get_or other j 0) (sym here)
    | inr other_place ↦ is.none (left_none difference (bit_xor (get_or one n 0) (get_or other n 0)) e) k (omega arith)
  ];
  same = λ each.
      let before : difference ≡ 0 = is.same (λ k low. each k (omega arith)) in
      let here : get_or one n 0 ≡ get_or other n 0 = each n (omega arith) in
      (λ i. bit_or (before i) (bit_xor (here i) (get_or other n 0))) ∙ or_zero_l (bit_xor (get_or other n 0) (get_or other n 0)) ∙ xor_self (get_or other n 0);
}

agree : (P : Type 0) (r t : Bool) → Decides r P → Decides t P → r ≡ t
agree P true true d e = refl
agree P true false d e = sym (e.1 (d.0 refl))
agree P false true d e = d.1 (e.0 refl)
agree P false false d e = refl

-- after the last byte
pub IsDifference-whole : (one other : List ℕ) (n difference : ℕ) → length one ≡ n → length other ≡ n → IsDifference one other n difference →
    (difference == 0) ≡ bytes_eq one other
IsDifference-whole one other n difference first second is =
    agree (one ≡ other) (difference == 0) (bytes_eq one other) (
      (λ e. ext_get_or 0 one other (first ∙ sym second) (λ k low. is.none (eqb-true difference 0 e) k (omega arith))),
      (λ e. eq-eqb difference 0 (is.same (λ k low. ap (λ xs. get_or xs k 0) e))),
    )
    (bytes_eq-Decides one other)
