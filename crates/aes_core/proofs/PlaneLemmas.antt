-- Planes of bits of eight blocks: gates by truth tables, and steps that are the same on each block.
use Rattle.std.proofs.Common.{◌≡◌, ℕ, zero, suc, ◌+◌, ◌%◌, ◌<◌, List, [], ◌∷◌, map, get_or, length, min, refl, ap, sym, ◌∙◌, arith, true}
use Rattle.std.proofs.lemmas.Bool.{eqb-true}
use Rattle.std.proofs.lemmas.Nat.{xor_block, and_block, or_block}
use Rattle.std.proofs.lemmas.Nat.Bits.{bit_at-lt, bit_at_xor, bit_at_and, bit_at_or}
use Rattle.std.specs.Prelude.{bit_and, bit_or, bit_xor, nat_eq, slice_index, max}
use Rattle.std.specs.Int.{bit_at}
use Rattle.std.specs.List.{range_with_len}
use Rattle.std.specs.Simd.Lanes.{zip2}
use Rattle.byte_words.specs.Tables.{all_from}
use Rattle.byte_words.proofs.TableLemmas.{all_from-at}
use Rattle.aes_core.specs.Planes.{vector_of, plane, AllBlocks, AllBits}
use Rattle.aes_core.proofs.BitLemmas.{Bitwise, joined}

xor_Bitwise : Bitwise bit_xor
xor_Bitwise = record { none = refl; lowest = λ a b r s low small. xor_block 1 a b r s low small }

and_Bitwise : Bitwise bit_and
and_Bitwise = record { none = refl; lowest = λ a b r s low small. and_block 1 a b r s low small }

vectors_joined : (op : ℕ → ℕ → ℕ) → Bitwise op → (f g : ℕ → ℕ → ℕ) → AllBits f → AllBits g → zip2 op (vector_of f) (vector_of g) ≡ vector_of (λ b p. op (f b p) (g b p))
unfolding vector_of
vectors_joined op bitwise f g fb gb = (λ i. map (λ p. joined op bitwise 8 (λ b. f b p) (λ b. g b p) (λ b. fb b p) (λ b. gb b p) i) (range_with_len 0 16))

planes_joined : (op : ℕ → ℕ → ℕ) → Bitwise op → (f g : ℕ → ℕ) (s : ℕ → List ℕ) (r a b : List ℕ) → ((x : ℕ) → f x < 2) → ((x : ℕ) → g x < 2) →
    r ≡ zip2 op a b → a ≡ plane f s → b ≡ plane g s → r ≡ plane (λ x. op (f x) (g x)) s
unfolding plane
planes_joined op bitwise f g s r a b fb gb made left right =
    made ∙ (λ i. zip2 op (left i) (right i))
    ∙ vectors_joined op bitwise (λ k p. f (slice_index (s k) p)) (λ k p. g (slice_index (s k) p)) (λ k p. fb (slice_index (s k) p)) (λ k p. gb (slice_index (s k) p))

-- the same of sums
pub xor_functions : (f g : ℕ → ℕ) (s : ℕ → List ℕ) (r a b : List ℕ) → ((x : ℕ) → f x < 2) → ((x : ℕ) → g x < 2) →
    r ≡ zip2 bit_xor a b → a ≡ plane f s → b ≡ plane g s → r ≡ plane (λ x. bit_xor (f x) (g x)) s
xor_functions f g s r a b fb gb made left right = planes_joined bit_xor xor_Bitwise f g s r a b fb gb made left right

-- ---- a gate, by the truth tables of its inputs: bit x of a table is its value at the byte x

xor_of_bits : (u v : ℕ) → u < 2 → v < 2 → bit_xor u v ≡ (u + v) % 2
xor_of_bits zero zero low small = refl
xor_of_bits zero (suc zero) low small = refl
xor_of_bits (suc zero) zero low small = refl
xor_of_bits (suc zero) (suc zero) low small = refl
xor_of_bits u (suc (suc v)) low small = absurd (omega arith)
xor_of_bits (suc (suc u)) v low small = absurd (omega arith)

and_of_bits : (u v : ℕ) → u < 2 → v < 2 → bit_and u v ≡ min u v
and_of_bits zero zero low small = refl
and_of_bits zero (suc zero) low small = refl
and_of_bits (suc zero) zero low small = refl
and_of_bits (suc zero) (suc zero) low small = refl
and_of_bits u (suc (suc v)) low small = absurd (omega arith)
and_of_bits (suc (suc u)) v low small = absurd (omega arith)

pub xor_bit : (t u x : ℕ) → bit_xor (bit_at t x) (bit_at u x) ≡ bit_at (bit_xor t u) x
xor_bit t u x = xor_of_bits (bit_at t x) (bit_at u x) (bit_at-lt t x) (bit_at-lt u x) ∙ sym (bit_at_xor t u x)

and_bit : (t u x : ℕ) → bit_and (bit_at t x) (bit_at u x) ≡ bit_at (bit_and t u) x
and_bit t u x = and_of_bits (bit_at t x) (bit_at u x) (bit_at-lt t x) (bit_at-lt u x) ∙ sym (bit_at_and t u x)

-- a vector has a truth table: a record, so that the arguments of a gate are found
pub record Carries (s : ℕ → List ℕ) (table : ℕ) (v : List ℕ) : Type 0 where
  pub is : v ≡ plane (bit_at table) s

pub xor_gate : {t u : ℕ} {s : ℕ → List ℕ} {r a b : List ℕ} → r ≡ zip2 bit_xor a b → Carries s t a → Carries s u b → Carries s (bit_xor t u) r
xor_gate {t} {u} {s} {r} {a} {b} made left right = record {
  is = planes_joined bit_xor xor_Bitwise (bit_at t) (bit_at u) s r a b (bit_at-lt t) (bit_at-lt u) made left.is right.is ∙ (λ i. plane (λ x. xor_bit t u x i) s);
}

pub and_gate : {t u : ℕ} {s : ℕ → List ℕ} {r a b : List ℕ} → r ≡ zip2 bit_and a b → Carries s t a → Carries s u b → Carries s (bit_and t u) r
and_gate {t} {u} {s} {r} {a} {b} made left right = record {
  is = planes_joined bit_and and_Bitwise (bit_at t) (bit_at u) s r a b (bit_at-lt t) (bit_at-lt u) made left.is right.is ∙ (λ i. plane (λ x. and_bit t u x i) s);
}

or_Bitwise : Bitwise bit_or
or_Bitwise = record { none = refl; lowest = λ a b r s low small. or_block 1 a b r s low small }

or_of_bits : (u v : ℕ) → u < 2 → v < 2 → bit_or u v ≡ max u v
or_of_bits zero zero low small = refl
or_of_bits zero (suc zero) low small = refl
or_of_bits (suc zero) zero low small = refl
or_of_bits (suc zero) (suc zero) low small = refl
or_of_bits u (suc (suc v)) low small = absurd (omega arith)
or_of_bits (suc (suc u)) v low small = absurd (omega arith)

or_bit : (t u x : ℕ) → bit_or (bit_at t x) (bit_at u x) ≡ bit_at (bit_or t u) x
or_bit t u x = or_of_bits (bit_at t x) (bit_at u x) (bit_at-lt t x) (bit_at-lt u x) ∙ sym (bit_at_or t u x)

pub or_gate : {t u : ℕ} {s : ℕ → List ℕ} {r a b : List ℕ} → r ≡ zip2 bit_or a b → Carries s t a → Carries s u b → Carries s (bit_or t u) r
or_gate {t} {u} {s} {r} {a} {b} made left right = record {
  is = planes_joined bit_or or_Bitwise (bit_at t) (bit_at u) s r a b (bit_at-lt t) (bit_at-lt u) made left.is right.is ∙ (λ i. plane (λ x. or_bit t u x i) s);
}

-- ---- planes that are the same at every byte

pub plane_same : (f g : ℕ → ℕ) (s : ℕ → List ℕ) → AllBlocks s → all_from (λ x. nat_eq (f x) (g x)) 0 256 ≡ true → plane f s ≡ plane g s
unfolding plane
plane_same f g s blocks all =
    let at : (b p : ℕ) → f (slice_index (s b) p) ≡ g (slice_index (s b) p) = λ b p.
    let low : slice_index (s b) p < 256 = (blocks b).bytes p in
    eqb-true _ _ (all_from-at (λ x. nat_eq (f x) (g x)) 0 256 (slice_index (s b) p) all (omega arith) (omega arith)) in
    (λ i. vector_of (λ b p. at b p i))

-- ---- the xor of two families of blocks

xor_at : (xs ys : List ℕ) (p : ℕ) → length xs ≡ length ys → bit_xor (get_or xs p 0) (get_or ys p 0) ≡ get_or (zip2 bit_xor xs ys) p 0
xor_at [] [] p same = refl
xor_at [] (y ∷ ys) p same = absurd (omega arith)
xor_at (x ∷ xs) [] p same = absurd (omega arith)
xor_at (x ∷ xs) (y ∷ ys) zero same = refl
xor_at (x ∷ xs) (y ∷ ys) (suc p) same = let rest : length xs ≡ length ys = omega arith in xor_at xs ys p rest

pub xor_blocks : (k : ℕ) (s t : ℕ → List ℕ) (r a b : List ℕ) → AllBlocks s → AllBlocks t → r ≡ zip2 bit_xor a b →
    a ≡ plane (λ x. bit_at x k) s → b ≡ plane (λ x. bit_at x k) t → r ≡ plane (λ x. bit_at x k) (λ b. zip2 bit_xor (s b) (t b))
unfolding plane
xor_blocks k s t r a b sb tb made left right =
    let state_map : (b p : ℕ) → bit_xor (bit_at (slice_index (s b) p) k) (bit_at (slice_index (t b) p) k) ≡ bit_at (slice_index (zip2 bit_xor (s b) (t b)) p) k = λ b p.
    xor_bit (slice_index (s b) p) (slice_index (t b) p) k ∙ ap (λ x. bit_at x k) (xor_at (s b) (t b) p ((sb b).size ∙ sym (tb b).size)) in
    made ∙ (λ i. zip2 bit_xor (left i) (right i))
    ∙ vectors_joined bit_xor xor_Bitwise (λ b p. bit_at (slice_index (s b) p) k) (λ b p. bit_at (slice_index (t b) p) k) (λ b p. bit_at-lt (slice_index (s b) p) k) (λ b p. bit_at-lt (slice_index (t b) p) k)
    ∙ (λ i. vector_of (λ b p. state_map b p i))
