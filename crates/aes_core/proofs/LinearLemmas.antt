-- Sums and products of bytes: a product by a fixed byte is linear, and a column that was mixed is
-- found again.
use Rattle.std.proofs.Common.{◌≡◌, ℕ, zero, suc, ◌/◌, ◌%◌, ◌<◌, Bool, true, false, refl, ap, sym, ◌∙◌, arith}
use Rattle.std.proofs.lemmas.Nat.{xor_comm, xor_of_8}
use Rattle.std.specs.Prelude.{bit_xor, nat_eq, if◌then◌else◌}
use Rattle.std.specs.Int.Bits.{xor_assoc, xor_self, xor_zero_r}
use Rattle.aes_core.specs.Field.{times_x, sum_with_product, field_product}
use Rattle.aes_core.proofs.ByteTables.{times_x-lt, times_x-xor}

pub xor_twice : (a k : ℕ) → bit_xor (bit_xor a k) k ≡ a
xor_twice a k = xor_assoc a k k ∙ ap (λ z. bit_xor a z) (xor_self k) ∙ xor_zero_r a

pub xor_swap : (a b c d : ℕ) → bit_xor (bit_xor a b) (bit_xor c d) ≡ bit_xor (bit_xor a c) (bit_xor b d)
xor_swap a b c d =
    xor_assoc a b (bit_xor c d) ∙ ap (λ z. bit_xor a z) (sym (xor_assoc b c d) ∙ ap (λ z. bit_xor z d) (xor_comm b c) ∙ xor_assoc c b d)
    ∙ sym (xor_assoc a c (bit_xor b d))

-- the sum of four
abbrev pub sum4 : ℕ → ℕ → ℕ → ℕ → ℕ
sum4 a b c d = bit_xor (bit_xor (bit_xor a b) c) d

sum4-lt : (a b c d : ℕ) → a < 256 → b < 256 → c < 256 → d < 256 → sum4 a b c d < 256
sum4-lt a b c d p q r s = xor_of_8 (bit_xor (bit_xor a b) c) d (xor_of_8 (bit_xor a b) c (xor_of_8 a b p q) r) s

-- the last may come first
pub sum4_turned : (a b c d : ℕ) → sum4 b c d a ≡ sum4 a b c d
sum4_turned a b c d =
    xor_comm (bit_xor (bit_xor b c) d) a ∙ sym (xor_assoc a (bit_xor b c) d) ∙ ap (λ z. bit_xor z d) (sym (xor_assoc a b c))

pub sum4-xor : (a b c d e f g h : ℕ) → bit_xor (sum4 a b c d) (sum4 e f g h) ≡ sum4 (bit_xor a e) (bit_xor b f) (bit_xor c g) (bit_xor d h)
sum4-xor a b c d e f g h =
    xor_swap (bit_xor (bit_xor a b) c) d (bit_xor (bit_xor e f) g) h
    ∙ ap (λ z. bit_xor z (bit_xor d h)) (xor_swap (bit_xor a b) c (bit_xor e f) g ∙ ap (λ z. bit_xor z (bit_xor c g)) (xor_swap a b e f))

-- the sum of four sums, by the place in them
sum4_by_place : (a0 b0 c0 d0 a1 b1 c1 d1 a2 b2 c2 d2 a3 b3 c3 d3 : ℕ) →
    sum4 (sum4 a0 b0 c0 d0) (sum4 a1 b1 c1 d1) (sum4 a2 b2 c2 d2) (sum4 a3 b3 c3 d3)
    ≡ sum4 (sum4 a0 a1 a2 a3) (sum4 b0 b1 b2 b3) (sum4 c0 c1 c2 c3) (sum4 d0 d1 d2 d3)
sum4_by_place a0 b0 c0 d0 a1 b1 c1 d1 a2 b2 c2 d2 a3 b3 c3 d3 =
    ap (λ z. bit_xor (bit_xor z (sum4 a2 b2 c2 d2)) (sum4 a3 b3 c3 d3)) (sum4-xor a0 b0 c0 d0 a1 b1 c1 d1)
    ∙ ap (λ z. bit_xor z (sum4 a3 b3 c3 d3)) (sum4-xor (bit_xor a0 a1) (bit_xor b0 b1) (bit_xor c0 c1) (bit_xor d0 d1) a2 b2 c2 d2)
    ∙ sum4-xor (bit_xor (bit_xor a0 a1) a2) (bit_xor (bit_xor b0 b1) b2) (bit_xor (bit_xor c0 c1) c2) (bit_xor (bit_xor d0 d1) d2) a3 b3 c3 d3

added : (q : Bool) (a b s t : ℕ) → (if q then bit_xor (bit_xor s t) (bit_xor a b) else bit_xor s t) ≡ bit_xor (if q then bit_xor s a else s) (if q then bit_xor t b else t)
added true a b s t = xor_swap s t a b
added false a b s t = refl

sum_with_product-xor : (n k a b s t : ℕ) → a < 256 → b < 256 →
    sum_with_product n k (bit_xor a b) (bit_xor s t) ≡ bit_xor (sum_with_product n k a s) (sum_with_product n k b t)
unfolding sum_with_product
sum_with_product-xor zero k a b s t small low = refl
sum_with_product-xor (suc n) k a b s t small low =
    (λ j. sum_with_product n (k / 2) (times_x-xor a b small low j) (added (nat_eq (k % 2) 1) a b s t j))
    ∙ sum_with_product-xor n (k / 2) (times_x a) (times_x b) (if nat_eq (k % 2) 1 then bit_xor s a else s) (if nat_eq (k % 2) 1 then bit_xor t b else t)
    (times_x-lt a small) (times_x-lt b low)

-- the product of a sum is the sum of the products
pub product-xor : (k a b : ℕ) → a < 256 → b < 256 → field_product k (bit_xor a b) ≡ bit_xor (field_product k a) (field_product k b)
unfolding field_product
product-xor k a b small low = sum_with_product-xor 8 k a b 0 0 small low

chosen-lt : (q : Bool) (a s : ℕ) → a < 256 → s < 256 → (if q then bit_xor s a else s) < 256
chosen-lt true a s small low = xor_of_8 s a low small
chosen-lt false a s small low = low

sum_with_product-lt : (n k a s : ℕ) → a < 256 → s < 256 → sum_with_product n k a s < 256
unfolding sum_with_product
sum_with_product-lt zero k a s small low = low
sum_with_product-lt (suc n) k a s small low =
    sum_with_product-lt n (k / 2) (times_x a) (if nat_eq (k % 2) 1 then bit_xor s a else s) (times_x-lt a small) (chosen-lt (nat_eq (k % 2) 1) a s small low)

pub product-lt : (k a : ℕ) → a < 256 → field_product k a < 256
unfolding field_product
product-lt k a small = sum_with_product-lt 8 k a 0 small (omega arith)

product-sum4 : (k a b c d : ℕ) → a < 256 → b < 256 → c < 256 → d < 256 →
    field_product k (sum4 a b c d) ≡ sum4 (field_product k a) (field_product k b) (field_product k c) (field_product k d)
product-sum4 k a b c d p q r s =
    product-xor k (bit_xor (bit_xor a b) c) d (xor_of_8 (bit_xor a b) c (xor_of_8 a b p q) r) s
    ∙ ap (λ z. bit_xor z (field_product k d)) (product-xor k (bit_xor a b) c (xor_of_8 a b p q) r ∙ ap (λ z. bit_xor z (field_product k c)) (product-xor k a b p q))

-- a byte of a mixed column, by four coefficients
abbrev pub mixed : ℕ → ℕ → ℕ → ℕ → ℕ → ℕ → ℕ → ℕ → ℕ
mixed k0 k1 k2 k3 a b c d = sum4 (field_product k0 a) (field_product k1 b) (field_product k2 c) (field_product k3 d)

pub mixed-lt : (k0 k1 k2 k3 a b c d : ℕ) → a < 256 → b < 256 → c < 256 → d < 256 → mixed k0 k1 k2 k3 a b c d < 256
mixed-lt k0 k1 k2 k3 a b c d p q r s = sum4-lt (field_product k0 a) (field_product k1 b) (field_product k2 c) (field_product k3 d) (product-lt k0 a p) (product-lt k1 b q) (product-lt k2 c r) (product-lt k3 d s)

-- The coefficients k undo the coefficients l: a byte is restored, and the other three of its column
-- cancel.
pub record Undo (k0 k1 k2 k3 l0 l1 l2 l3 : ℕ) : Type 0 where
  pub first : (b : ℕ) → b < 256 → sum4 (field_product k0 (field_product l0 b)) (field_product k1 (field_product l3 b)) (field_product k2 (field_product l2 b)) (field_product k3 (field_product l1 b)) ≡ b
  pub second : (b : ℕ) → b < 256 → sum4 (field_product k0 (field_product l1 b)) (field_product k1 (field_product l0 b)) (field_product k2 (field_product l3 b)) (field_product k3 (field_product l2 b)) ≡ 0
  pub third : (b : ℕ) → b < 256 → sum4 (field_product k0 (field_product l2 b)) (field_product k1 (field_product l1 b)) (field_product k2 (field_product l0 b)) (field_product k3 (field_product l3 b)) ≡ 0
  pub fourth : (b : ℕ) → b < 256 → sum4 (field_product k0 (field_product l3 b)) (field_product k1 (field_product l2 b)) (field_product k2 (field_product l1 b)) (field_product k3 (field_product l0 b)) ≡ 0

spread : (k l0 l1 l2 l3 a b c d : ℕ) → a < 256 → b < 256 → c < 256 → d < 256 →
    field_product k (mixed l0 l1 l2 l3 a b c d) ≡ sum4 (field_product k (field_product l0 a)) (field_product k (field_product l1 b)) (field_product k (field_product l2 c)) (field_product k (field_product l3 d))
spread k l0 l1 l2 l3 a b c d p q r s =
    product-sum4 k (field_product l0 a) (field_product l1 b) (field_product l2 c) (field_product l3 d) (product-lt l0 a p) (product-lt l1 b q) (product-lt l2 c r) (product-lt l3 d s)

pub mixed-mixed : (k0 k1 k2 k3 l0 l1 l2 l3 a b c d : ℕ) → Undo k0 k1 k2 k3 l0 l1 l2 l3 → a < 256 → b < 256 → c < 256 → d < 256 →
    mixed k0 k1 k2 k3 (mixed l0 l1 l2 l3 a b c d) (mixed l0 l1 l2 l3 b c d a) (mixed l0 l1 l2 l3 c d a b) (mixed l0 l1 l2 l3 d a b c) ≡ a
mixed-mixed k0 k1 k2 k3 l0 l1 l2 l3 a b c d undo p q r s =
    let P : ℕ → ℕ → ℕ → ℕ = λ k l x. field_product k (field_product l x) in
    let row1 : field_product k1 (mixed l0 l1 l2 l3 b c d a) ≡ sum4 (P k1 l3 a) (P k1 l0 b) (P k1 l1 c) (P k1 l2 d) =
    spread k1 l0 l1 l2 l3 b c d a q r s p ∙ sum4_turned (P k1 l3 a) (P k1 l0 b) (P k1 l1 c) (P k1 l2 d) in
    let row2 : field_product k2 (mixed l0 l1 l2 l3 c d a b) ≡ sum4 (P k2 l2 a) (P k2 l3 b) (P k2 l0 c) (P k2 l1 d) =
    spread k2 l0 l1 l2 l3 c d a b r s p q ∙ sum4_turned (P k2 l3 b) (P k2 l0 c) (P k2 l1 d) (P k2 l2 a)
    ∙ sum4_turned (P k2 l2 a) (P k2 l3 b) (P k2 l0 c) (P k2 l1 d) in
    let row3 : field_product k3 (mixed l0 l1 l2 l3 d a b c) ≡ sum4 (P k3 l1 a) (P k3 l2 b) (P k3 l3 c) (P k3 l0 d) =
    spread k3 l0 l1 l2 l3 d a b c s p q r ∙ sum4_turned (P k3 l3 c) (P k3 l0 d) (P k3 l1 a) (P k3 l2 b)
    ∙ sum4_turned (P k3 l2 b) (P k3 l3 c) (P k3 l0 d) (P k3 l1 a) ∙ sum4_turned (P k3 l1 a) (P k3 l2 b) (P k3 l3 c) (P k3 l0 d) in
    (λ j. sum4 (spread k0 l0 l1 l2 l3 a b c d p q r s j) (row1 j) (row2 j) (row3 j))
    ∙ sum4_by_place (P k0 l0 a) (P k0 l1 b) (P k0 l2 c) (P k0 l3 d) (P k1 l3 a) (P k1 l0 b) (P k1 l1 c) (P k1 l2 d)
    (P k2 l2 a) (P k2 l3 b) (P k2 l0 c) (P k2 l1 d) (P k3 l1 a) (P k3 l2 b) (P k3 l3 c) (P k3 l0 d)
    ∙ (λ j. sum4 (undo.first a p j) (undo.second b q j) (undo.third c r j) (undo.fourth d s j))
    ∙ ap (λ z. bit_xor (bit_xor z 0) 0) (xor_zero_r a) ∙ ap (λ z. bit_xor z 0) (xor_zero_r a) ∙ xor_zero_r a
