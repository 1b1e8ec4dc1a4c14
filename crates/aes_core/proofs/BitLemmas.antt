-- Numbers made of their bits: operations bit by bit, and the exchanges of the transposition.
use Rattle.std.proofs.Common.{◌≡◌, ℕ, zero, suc, ◌+◌, ◌-◌, ◌*◌, ◌/◌, ◌%◌, ◌^◌, ◌<◌, Bool, true, false, List, map, replicate, refl, ap, ◌∙◌, arith}
use Rattle.std.proofs.lemmas.Nat.{and_block, or_block}
use Rattle.std.specs.Prelude.{bit_and, bit_or, nat_eq, if◌then◌else◌}
use Rattle.std.specs.Int.Bits.{and_zero_r, or_zero_l, or_zero_r}
use Rattle.std.specs.List.{range_with_len}
use Rattle.std.specs.Simd.Lanes.{zip2}
use Rattle.aes_core.specs.Planes.{packed, vector_of, AllBits, lower_bits, upper_bits}

-- an operation that works on each bit apart
pub record Bitwise (op : ℕ → ℕ → ℕ) : Type 0 where
  pub none : op 0 0 ≡ 0
  pub lowest : (a b r s : ℕ) → r < 2 → s < 2 → op (a * 2 + r) (b * 2 + s) ≡ op a b * 2 + op r s

pub joined : (op : ℕ → ℕ → ℕ) → Bitwise op → (n : ℕ) (f g : ℕ → ℕ) → ((b : ℕ) → f b < 2) → ((b : ℕ) → g b < 2) →
    op (packed n f) (packed n g) ≡ packed n (λ b. op (f b) (g b))
unfolding packed
joined op bitwise zero f g fb gb = bitwise.none
joined op bitwise (suc n) f g fb gb =
    bitwise.lowest (packed n (λ b. f (suc b))) (packed n (λ b. g (suc b))) (f 0) (g 0) (fb 0) (gb 0)
    ∙ (λ i. joined op bitwise n (λ b. f (suc b)) (λ b. g (suc b)) (λ b. fb (suc b)) (λ b. gb (suc b)) i * 2 + op (f 0) (g 0))

and_Bitwise : Bitwise bit_and
and_Bitwise = record { none = refl; lowest = λ a b r s low small. and_block 1 a b r s low small }

or_Bitwise : Bitwise bit_or
or_Bitwise = record { none = refl; lowest = λ a b r s low small. or_block 1 a b r s low small }

-- ---- the bits that a mask leaves

masked_bit : (kept : Bool) (u : ℕ) → u < 2 → bit_and u (if kept then 1 else 0) ≡ if kept then u else 0
masked_bit true zero low = refl
masked_bit true (suc zero) low = refl
masked_bit true (suc (suc u)) low = absurd (omega arith)
masked_bit false u low = and_zero_r u

chosen_bit : (kept : Bool) (u v : ℕ) → bit_or (if kept then u else 0) (if kept then 0 else v) ≡ if kept then u else v
chosen_bit true u v = or_zero_r u
chosen_bit false u v = or_zero_l v

kept-lt : (kept : Bool) (u v : ℕ) → u < 2 → v < 2 → (if kept then u else v) < 2
kept-lt true u v low small = low
kept-lt false u v low small = small

masked : (keep : ℕ → Bool) (f : ℕ → ℕ) → ((b : ℕ) → f b < 2) → bit_and (packed 8 f) (packed 8 (λ b. if keep b then 1 else 0)) ≡ packed 8 (λ b. if keep b then f b else 0)
masked keep f fb = joined bit_and and_Bitwise 8 f (λ b. if keep b then 1 else 0) fb (λ b. kept-lt (keep b) 1 0 (omega arith) (omega arith))
    ∙ (λ i. packed 8 (λ b. masked_bit (keep b) (f b) (fb b) i))

left_out_bit : (kept : Bool) (u : ℕ) → u < 2 → bit_and u (if kept then 0 else 1) ≡ if kept then 0 else u
left_out_bit true u low = and_zero_r u
left_out_bit false zero low = refl
left_out_bit false (suc zero) low = refl
left_out_bit false (suc (suc u)) low = absurd (omega arith)

left_out : (keep : ℕ → Bool) (f : ℕ → ℕ) → ((b : ℕ) → f b < 2) → bit_and (packed 8 f) (packed 8 (λ b. if keep b then 0 else 1)) ≡ packed 8 (λ b. if keep b then 0 else f b)
left_out keep f fb = joined bit_and and_Bitwise 8 f (λ b. if keep b then 0 else 1) fb (λ b. kept-lt (keep b) 0 1 (omega arith) (omega arith))
    ∙ (λ i. packed 8 (λ b. left_out_bit (keep b) (f b) (fb b) i))

put_together : (keep : ℕ → Bool) (f g : ℕ → ℕ) → ((b : ℕ) → f b < 2) → ((b : ℕ) → g b < 2) →
    bit_or (packed 8 (λ b. if keep b then f b else 0)) (packed 8 (λ b. if keep b then 0 else g b)) ≡ packed 8 (λ b. if keep b then f b else g b)
put_together keep f g fb gb =
    joined bit_or or_Bitwise 8 (λ b. if keep b then f b else 0) (λ b. if keep b then 0 else g b) (λ b. kept-lt (keep b) (f b) 0 (fb b) (omega arith)) (λ b. kept-lt (keep b) 0 (g b) (omega arith) (gb b))
    ∙ (λ i. packed 8 (λ b. chosen_bit (keep b) (f b) (g b) i))

-- ---- exchanges by n places: a bit whose place has bit n set changes with the one n places lower

abbrev stays : ℕ → ℕ → Bool
stays n k = nat_eq (k / n % 2) 0

-- the masks of an exchange, and that the bits that move stay within a byte
pub record Exchange (n low high : ℕ) : Type 0 where
  pub low_is : low ≡ packed 8 (λ k. if stays n k then 1 else 0)
  pub high_is : high ≡ packed 8 (λ k. if stays n k then 0 else 1)
  pub raised : (h : ℕ → ℕ) → ((b : ℕ) → h b < 2) → packed 8 (λ k. if stays n k then h k else 0) * 2 ^ n % 2 ^ 8 ≡ packed 8 (λ k. if stays n k then 0 else h (k - n))
  pub lowered : (h : ℕ → ℕ) → ((b : ℕ) → h b < 2) → packed 8 (λ k. if stays n k then 0 else h k) / 2 ^ n ≡ packed 8 (λ k. if stays n k then h (k + n) else 0)

lower : (n low high : ℕ) → Exchange n low high → (f g : ℕ → ℕ) → ((b : ℕ) → f b < 2) → ((b : ℕ) → g b < 2) →
    bit_or (bit_and (packed 8 f) low) (bit_and (packed 8 g) low * 2 ^ n % 2 ^ 8) ≡ packed 8 (λ k. if stays n k then f k else g (k - n))
lower n low high exchange f g fb gb =
    (λ i. bit_or (bit_and (packed 8 f) (exchange.low_is i)) (bit_and (packed 8 g) (exchange.low_is i) * 2 ^ n % 2 ^ 8))
    ∙ (λ i. bit_or (masked (stays n) f fb i) (masked (stays n) g gb i * 2 ^ n % 2 ^ 8))
    ∙ ap (λ v. bit_or (packed 8 (λ k. if stays n k then f k else 0)) v) (exchange.raised g gb)
    ∙ put_together (stays n) f (λ k. g (k - n)) fb (λ k. gb (k - n))

upper : (n low high : ℕ) → Exchange n low high → (f g : ℕ → ℕ) → ((b : ℕ) → f b < 2) → ((b : ℕ) → g b < 2) →
    bit_or (bit_and (packed 8 f) high / 2 ^ n) (bit_and (packed 8 g) high) ≡ packed 8 (λ k. if stays n k then f (k + n) else g k)
upper n low high exchange f g fb gb =
    (λ i. bit_or (bit_and (packed 8 f) (exchange.high_is i) / 2 ^ n) (bit_and (packed 8 g) (exchange.high_is i)))
    ∙ (λ i. bit_or (left_out (stays n) f fb i / 2 ^ n) (left_out (stays n) g gb i))
    ∙ ap (λ v. bit_or v (packed 8 (λ k. if stays n k then 0 else g k))) (exchange.lowered f fb)
    ∙ put_together (stays n) (λ k. f (k + n)) g (λ k. fb (k + n)) gb

pub lower_vector : (n low high : ℕ) → Exchange n low high → (f g : ℕ → ℕ → ℕ) (x y : List ℕ) → AllBits f → AllBits g → x ≡ vector_of f → y ≡ vector_of g →
    zip2 bit_or (zip2 bit_and x (replicate 16 low)) (zip2 (λ a m. a * 2 ^ m % 2 ^ 8) (zip2 bit_and y (replicate 16 low)) (replicate 16 n)) ≡ vector_of (lower_bits n f g)
unfolding vector_of lower_bits
lower_vector n low high exchange f g x y fb gb first second =
    (λ i. zip2 bit_or (zip2 bit_and (first i) (replicate 16 low)) (zip2 (λ a m. a * 2 ^ m % 2 ^ 8) (zip2 bit_and (second i) (replicate 16 low)) (replicate 16 n)))
    ∙ (λ i. map (λ p. lower n low high exchange (λ b. f b p) (λ b. g b p) (λ b. fb b p) (λ b. gb b p) i) (range_with_len 0 16))

pub upper_vector : (n low high : ℕ) → Exchange n low high → (f g : ℕ → ℕ → ℕ) (x y : List ℕ) → AllBits f → AllBits g → x ≡ vector_of f → y ≡ vector_of g →
    zip2 bit_or (zip2 (λ a m. a / 2 ^ m) (zip2 bit_and x (replicate 16 high)) (replicate 16 n)) (zip2 bit_and y (replicate 16 high)) ≡ vector_of (upper_bits n f g)
unfolding vector_of upper_bits
upper_vector n low high exchange f g x y fb gb first second =
    (λ i. zip2 bit_or (zip2 (λ a m. a / 2 ^ m) (zip2 bit_and (first i) (replicate 16 high)) (replicate 16 n)) (zip2 bit_and (second i) (replicate 16 high)))
    ∙ (λ i. map (λ p. upper n low high exchange (λ b. f b p) (λ b. g b p) (λ b. fb b p) (λ b. gb b p) i) (range_with_len 0 16))

raised_4 : (a b c d : ℕ) → a < 2 → b < 2 → c < 2 → d < 2 → ((((((((0 * 2 + 0) * 2 + 0) * 2 + 0) * 2 + 0) * 2 + d) * 2 + c) * 2 + b) * 2 + a) * 16 % 256 ≡ (((((((0 * 2 + d) * 2 + c) * 2 + b) * 2 + a) * 2 + 0) * 2 + 0) * 2 + 0) * 2 + 0
raised_4 a b c d p q r s = omega arith

lowered_4 : (a b c d : ℕ) → a < 2 → b < 2 → c < 2 → d < 2 → ((((((((0 * 2 + d) * 2 + c) * 2 + b) * 2 + a) * 2 + 0) * 2 + 0) * 2 + 0) * 2 + 0) / 16 ≡ (((((((0 * 2 + 0) * 2 + 0) * 2 + 0) * 2 + 0) * 2 + d) * 2 + c) * 2 + b) * 2 + a
lowered_4 a b c d p q r s = omega arith

pub fours : Exchange 4 15 240
unfolding packed
fours = record { low_is = refl; high_is = refl; raised = λ h low. raised_4 (h 0) (h 1) (h 2) (h 3) (low 0) (low 1) (low 2) (low 3); lowered = λ h low. lowered_4 (h 4) (h 5) (h 6) (h 7) (low 4) (low 5) (low 6) (low 7) }

raised_2 : (a b c d : ℕ) → a < 2 → b < 2 → c < 2 → d < 2 → ((((((((0 * 2 + 0) * 2 + 0) * 2 + d) * 2 + c) * 2 + 0) * 2 + 0) * 2 + b) * 2 + a) * 4 % 256 ≡ (((((((0 * 2 + d) * 2 + c) * 2 + 0) * 2 + 0) * 2 + b) * 2 + a) * 2 + 0) * 2 + 0
raised_2 a b c d p q r s = omega arith

lowered_2 : (a b c d : ℕ) → a < 2 → b < 2 → c < 2 → d < 2 → ((((((((0 * 2 + d) * 2 + c) * 2 + 0) * 2 + 0) * 2 + b) * 2 + a) * 2 + 0) * 2 + 0) / 4 ≡ (((((((0 * 2 + 0) * 2 + 0) * 2 + d) * 2 + c) * 2 + 0) * 2 + 0) * 2 + b) * 2 + a
lowered_2 a b c d p q r s = omega arith

pub pairs : Exchange 2 51 204
unfolding packed
pairs = record { low_is = refl; high_is = refl; raised = λ h low. raised_2 (h 0) (h 1) (h 4) (h 5) (low 0) (low 1) (low 4) (low 5); lowered = λ h low. lowered_2 (h 2) (h 3) (h 6) (h 7) (low 2) (low 3) (low 6) (low 7) }

raised_1 : (a b c d : ℕ) → a < 2 → b < 2 → c < 2 → d < 2 → ((((((((0 * 2 + 0) * 2 + d) * 2 + 0) * 2 + c) * 2 + 0) * 2 + b) * 2 + 0) * 2 + a) * 2 % 256 ≡ (((((((0 * 2 + d) * 2 + 0) * 2 + c) * 2 + 0) * 2 + b) * 2 + 0) * 2 + a) * 2 + 0
raised_1 a b c d p q r s = omega arith

lowered_1 : (a b c d : ℕ) → a < 2 → b < 2 → c < 2 → d < 2 → ((((((((0 * 2 + d) * 2 + 0) * 2 + c) * 2 + 0) * 2 + b) * 2 + 0) * 2 + a) * 2 + 0) / 2 ≡ (((((((0 * 2 + 0) * 2 + d) * 2 + 0) * 2 + c) * 2 + 0) * 2 + b) * 2 + 0) * 2 + a
lowered_1 a b c d p q r s = omega arith

pub singles : Exchange 1 85 170
unfolding packed
singles = record { low_is = refl; high_is = refl; raised = λ h low. raised_1 (h 0) (h 2) (h 4) (h 6) (low 0) (low 2) (low 4) (low 6); lowered = λ h low. lowered_1 (h 1) (h 3) (h 5) (h 7) (low 1) (low 3) (low 5) (low 7) }

-- ---- what an exchange makes is bits again

pub lower-AllBits : (n : ℕ) (f g : ℕ → ℕ → ℕ) → AllBits f → AllBits g → AllBits (lower_bits n f g)
unfolding lower_bits
lower-AllBits n f g fb gb k p = kept-lt (nat_eq (k / n % 2) 0) (f k p) (g (k - n) p) (fb k p) (gb (k - n) p)

pub upper-AllBits : (n : ℕ) (f g : ℕ → ℕ → ℕ) → AllBits f → AllBits g → AllBits (upper_bits n f g)
unfolding upper_bits
upper-AllBits n f g fb gb k p = kept-lt (nat_eq (k / n % 2) 0) (f (k + n) p) (g k p) (fb (k + n) p) (gb k p)
