-- Vectors of 16 lanes: what holds of every list of 16 bytes holds of each, lane by lane.
use Rattle.std.proofs.Common.{◌≡◌, ℕ, zero, suc, ◌+◌, ◌*◌, ◌%◌, ◌^◌, ◌≤◌, List, [], ◌∷◌, map, length, get_or, take, drop, replicate, refl, ◌∙◌, arith, cond, Fits, w8, length-drop, inl, inr}
use Rattle.std.proofs.lemmas.Bool.{cases_lt}
use Rattle.std.proofs.lemmas.List.{get_or_past, length-take-le, get_or-take, get_or-drop}
use Rattle.std.proofs.lemmas.List.FromFn.{fill_by_all}
use Rattle.std.proofs.lemmas.Simd.{Each1-get_or}
use Rattle.std.specs.Prelude.{bit_xor, nat_le}
use Rattle.std.specs.Simd.Lanes.{Each1, zip2}
use lib.Lanes.{sel_l, top, chunk}
use Rattle.aes_core.specs.Field.{times_x}
use Rattle.aes_core.specs.Lanes.{round_key}
use Rattle.aes_core.specs.Laws.{IsBlock}
use Rattle.aes_core.specs.Steps.{add_round_key}
use Rattle.aes_core.proofs.ByteTables.{times_x_lane}

-- a vector of bytes is a block
pub vector-IsBlock : (v : List ℕ) → length v ≡ 16 → Each1 (Fits w8) v → IsBlock v
vector-IsBlock v size fits = record {
  size = size;
  bytes = λ i. elim (cases_lt i 16) [
    | inl low ↦ (Each1-get_or (Fits w8) v i 0 (omega arith) fits).fits
    | inr past ↦ rw (get_or_past v i 0 (omega arith)) (omega arith)
  ];
}

-- the product by x in each lane: the mask is xored if the highest bit is set
pub times_x_lanes : (n : ℕ) (v : List ℕ) → length v ≡ n → Each1 (Fits w8) v →
    zip2 bit_xor (zip2 (λ a b. (a + b) % 2 ^ 8) v v) (sel_l (map (top 7) (zip2 (λ a b. cond (nat_le a b) 255 0) (replicate n 128) v)) (replicate n 27) (replicate n 0)) ≡ map times_x v
times_x_lanes zero [] size fits = refl
times_x_lanes zero (b ∷ v) size fits = absurd (omega arith)
times_x_lanes (suc n) [] size fits = absurd (omega arith)
times_x_lanes (suc n) (b ∷ v) size fits =
    let rest : length v ≡ n = omega arith in
    (λ i. times_x_lane b fits.0.fits i ∷ times_x_lanes n v rest fits.1 i)

pub of_sixteen : (P : List ℕ → Type 0) → ((x0 x1 x2 x3 x4 x5 x6 x7 x8 x9 x10 x11 x12 x13 x14 x15 : ℕ) → P (x0 ∷ x1 ∷ x2 ∷ x3 ∷ x4 ∷ x5 ∷ x6 ∷ x7 ∷ x8 ∷ x9 ∷ x10 ∷ x11 ∷ x12 ∷ x13 ∷ x14 ∷ x15 ∷ [])) → (xs : List ℕ) → length xs ≡ 16 → P xs
of_sixteen P p (x0 ∷ x1 ∷ x2 ∷ x3 ∷ x4 ∷ x5 ∷ x6 ∷ x7 ∷ x8 ∷ x9 ∷ x10 ∷ x11 ∷ x12 ∷ x13 ∷ x14 ∷ x15 ∷ []) size = p x0 x1 x2 x3 x4 x5 x6 x7 x8 x9 x10 x11 x12 x13 x14 x15
of_sixteen P p ([]) size = absurd (omega arith)
of_sixteen P p (x0 ∷ []) size = absurd (omega arith)
of_sixteen P p (x0 ∷ x1 ∷ []) size = absurd (omega arith)
of_sixteen P p (x0 ∷ x1 ∷ x2 ∷ []) size = absurd (omega arith)
of_sixteen P p (x0 ∷ x1 ∷ x2 ∷ x3 ∷ []) size = absurd (omega arith)
of_sixteen P p (x0 ∷ x1 ∷ x2 ∷ x3 ∷ x4 ∷ []) size = absurd (omega arith)
of_sixteen P p (x0 ∷ x1 ∷ x2 ∷ x3 ∷ x4 ∷ x5 ∷ []) size = absurd (omega arith)
of_sixteen P p (x0 ∷ x1 ∷ x2 ∷ x3 ∷ x4 ∷ x5 ∷ x6 ∷ []) size = absurd (omega arith)
of_sixteen P p (x0 ∷ x1 ∷ x2 ∷ x3 ∷ x4 ∷ x5 ∷ x6 ∷ x7 ∷ []) size = absurd (omega arith)
of_sixteen P p (x0 ∷ x1 ∷ x2 ∷ x3 ∷ x4 ∷ x5 ∷ x6 ∷ x7 ∷ x8 ∷ []) size = absurd (omega arith)
of_sixteen P p (x0 ∷ x1 ∷ x2 ∷ x3 ∷ x4 ∷ x5 ∷ x6 ∷ x7 ∷ x8 ∷ x9 ∷ []) size = absurd (omega arith)
of_sixteen P p (x0 ∷ x1 ∷ x2 ∷ x3 ∷ x4 ∷ x5 ∷ x6 ∷ x7 ∷ x8 ∷ x9 ∷ x10 ∷ []) size = absurd (omega arith)
of_sixteen P p (x0 ∷ x1 ∷ x2 ∷ x3 ∷ x4 ∷ x5 ∷ x6 ∷ x7 ∷ x8 ∷ x9 ∷ x10 ∷ x11 ∷ []) size = absurd (omega arith)
of_sixteen P p (x0 ∷ x1 ∷ x2 ∷ x3 ∷ x4 ∷ x5 ∷ x6 ∷ x7 ∷ x8 ∷ x9 ∷ x10 ∷ x11 ∷ x12 ∷ []) size = absurd (omega arith)
of_sixteen P p (x0 ∷ x1 ∷ x2 ∷ x3 ∷ x4 ∷ x5 ∷ x6 ∷ x7 ∷ x8 ∷ x9 ∷ x10 ∷ x11 ∷ x12 ∷ x13 ∷ []) size = absurd (omega arith)
of_sixteen P p (x0 ∷ x1 ∷ x2 ∷ x3 ∷ x4 ∷ x5 ∷ x6 ∷ x7 ∷ x8 ∷ x9 ∷ x10 ∷ x11 ∷ x12 ∷ x13 ∷ x14 ∷ []) size = absurd (omega arith)
of_sixteen P p (x0 ∷ x1 ∷ x2 ∷ x3 ∷ x4 ∷ x5 ∷ x6 ∷ x7 ∷ x8 ∷ x9 ∷ x10 ∷ x11 ∷ x12 ∷ x13 ∷ x14 ∷ x15 ∷ x16 ∷ xs) size = absurd (omega arith)

-- the 16 bytes from a multiple of 16 on
pub round_key_loaded : (keys : List ℕ) (n count : ℕ) → count ≡ 16 → 16 * n + 16 ≤ length keys → chunk 0 16 (take count (drop (16 * n) keys)) ≡ round_key keys n
unfolding round_key
round_key_loaded keys n count whole within =
    let rest : 16 ≤ length (drop (16 * n) keys) = omega (arith, length-drop (16 * n) keys) in
    let part : 16 ≤ length (take count (drop (16 * n) keys)) = omega (arith, length-take-le count (drop (16 * n) keys) (omega arith)) in
    fill_by_all (λ i. get_or keys (16 * n + i) 0) (take 16 (take count (drop (16 * n) keys))) 16 0 (length-take-le 16 (take count (drop (16 * n) keys)) part)
    (λ k low. get_or-take 16 (take count (drop (16 * n) keys)) k 0 low ∙ get_or-take count (drop (16 * n) keys) k 0 (omega arith) ∙ get_or-drop (16 * n) keys k 0)

-- a round key lane by lane
pub add_by_lanes : (keys : List ℕ) (n : ℕ) (s : List ℕ) → length s ≡ 16 → zip2 bit_xor s (round_key keys n) ≡ add_round_key keys n s
unfolding round_key add_round_key
add_by_lanes keys n s size = of_sixteen (λ s. zip2 bit_xor s (round_key keys n) ≡ add_round_key keys n s) (λ x0 x1 x2 x3 x4 x5 x6 x7 x8 x9 x10 x11 x12 x13 x14 x15. refl) s size
