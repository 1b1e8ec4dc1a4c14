-- A segment in the making: what it sees is the latest block.
use Rattle.std.proofs.Common.{◌≡◌, ℕ, ◌+◌, ◌*◌, ◌/◌, ◌%◌, ◌^◌, ◌<◌, ◌≤◌, ◌≢◌, ◌⊎◌, ◌==◌, false, List, []}
use Rattle.std.proofs.Common.{◌∷◌, ◌++◌, length, slice_index, map, slice_index_or, slice_set, inl, inr, refl, sym, ap, ◌∙◌, arith}
use Rattle.std.proofs.Common.{get_or-set_same, get_or-set_other}
use Rattle.std.proofs.lemmas.Bool.{cases_lt, cases_eq}
use Rattle.std.proofs.lemmas.Bool.Decides.{nat_tests}
use Rattle.std.proofs.lemmas.Nat.{div-add-mod', xor_comm}
use Rattle.std.specs.List.{range_with_len}
use Rattle.argon_kdf.specs.declared.layout.Place.{Place}
use Rattle.argon_kdf.specs.Blocks.{joined, xored, zero_block}
use Rattle.argon_kdf.specs.Shapes.{Shape, IsWithin, place, columns, column_before}
use Rattle.argon_kdf.specs.References.{reference_word, reference_lane, reference_column}
use Rattle.argon_kdf.specs.Tables.{Table, put, columns_made, latest}
use Rattle.argon_kdf.specs.Filling.{joined_block, new_block, with_block}
use Rattle.argon_kdf.specs.SeenBlocks.{IsOutside, block_at, seen_block}
use Rattle.argon_kdf.specs.Memory.{Shows}
use Rattle.argon_kdf.specs.Segments.{BeginsSegment}
use Rattle.argon_kdf.proofs.Referring.{reference_apart}
use Rattle.argon_kdf.proofs.SliceLemmas.{slice_of, index_of, slice_outside, block_is, block_same}
use Rattle.argon_kdf.proofs.SliceLemmas.{seen_own, seen_other, appended_here, appended_other}
use Rattle.argon_kdf.proofs.Standing.{made_before, made_here, made_after, latest_made, latest_old}
use Rattle.argon_kdf.proofs.Standing.{latest_same, latest_put_here, latest_put_lane, latest_put_column}

-- ---- at the start

pub begin_made : (x : Shape) (w s l : ℕ) → columns_made x (place w s 0 0) l ≡ s * x.width
begin_made x w s l = elim (cases_eq l 0) [
  | inl first ↦ rw first (omega (arith, made_here x w s 0 0))
  | inr later ↦ omega (arith, made_after x w s 0 0 l (omega arith))
]

pub other_made : (x : Shape) (w s i k l : ℕ) → l ≢ i
    → (s * x.width ≤ columns_made x (place w s i k) l)
    × (columns_made x (place w s i k) l ≤ s * x.width + x.width)
other_made x w s i k l other = elim (cases_lt l i) [
  | inl low ↦ (omega (arith, made_before x w s i k l low), omega (arith, made_before x w s i k l low))
  | inr high ↦ (
    omega (arith, made_after x w s i k l (omega arith)),
    omega (arith, made_after x w s i k l (omega arith)),
  )
]

-- without the slice, memory is what it was
pub Begun_start : (x : Shape) (before m : List (List (List (List ℕ)))) (seg : List (List ℕ)) (b : Table)
    (w s i : ℕ) → 2 ≤ x.width → ((n : ℕ) → n ≢ s → slice_index_or m n [] ≡ slice_index_or before n [])
    → seg ≡ slice_index_or (slice_index_or before s []) i []
    → Shows x (block_at x before) b (place w s 0 0) → BeginsSegment x m seg b (place w s i 0)
Begun_start x before m seg b w s i wide kept taken st = record {
  shows = λ l z low inside side.
      let from_memory : seen_block x m seg (place w s i 0) l z ≡ block_at x before l z =
      elim (cases_eq (z / x.width) s) [
        | inl here ↦
            let own : l ≡ i =
            elim side [ inl own ↦ own | inr outside ↦ absurd (slice_outside x s z (omega arith) outside here) ] in
            seen_own x m seg (place w s i 0) l z here
            ∙ ap (λ (segment : List (List ℕ)). slice_index_or segment (z % x.width) zero_block) taken
            ∙ rw own (sym (block_is x before s i z here))
        | inr apart ↦ seen_other x m seg (place w s i 0) l z apart
            ∙ block_same x m before l z (kept (z / x.width) apart)
      ] in
      let begin : columns_made x (place w s 0 0) l ≡ s * x.width = begin_made x w s l in
      from_memory ∙ st.shows l z low inside
      ∙ elim (cases_eq l i) [
        | inl own ↦
            let here : columns_made x (place w s i 0) l ≡ s * x.width =
            rw own (omega (arith, made_here x w s i 0)) in
            latest_same x b b (place w s 0 0) (place w s i 0) l z refl (begin ∙ sym here) refl refl
        | inr other ↦
            let bounds = other_made x w s i 0 l other in
            elim side [
              | inl own ↦ absurd (other own)
              | inr outside ↦ elim outside [
                | inl under ↦ latest_made x b (place w s 0 0) l z (omega arith)
                    ∙ sym (latest_made x b (place w s i 0) l z (omega (arith, bounds.0)))
                | inr over ↦ latest_old x b (place w s 0 0) l z (omega arith)
                    ∙ sym (latest_old x b (place w s i 0) l z (omega (arith, bounds.1)))
              ]
            ]
      ];
}

-- ---- one more block

-- another column is in another slice, or has another index
apart_of : (g s k z : ℕ) → z ≢ s * g + k → (z / g ≢ s) ⊎ (z % g ≢ k)
apart_of g s k z other = elim (cases_eq (z / g) s) [
  | inr apart ↦ inl apart
  | inl here ↦ inr (λ index. other (
      sym (div-add-mod' z g) ∙ ap (λ (n : ℕ). n * g + z % g) here ∙ ap (λ (n : ℕ). s * g + n) index))
]

-- a segment with a block written, over another or after the others
pub record Written (old new : List (List ℕ)) (k : ℕ) (block : List ℕ) : Type 0 where
  pub here : slice_index_or new k zero_block ≡ block
  pub others : (n : ℕ) → n ≢ k → slice_index_or new n zero_block ≡ slice_index_or old n zero_block

pub written_over : (seg : List (List ℕ)) (k : ℕ) (block : List ℕ) → k < length seg
    → Written seg (slice_set seg k block) k block
written_over seg k block within = record {
  here = get_or-set_same seg k block zero_block within;
  others = λ n other. get_or-set_other seg k n block zero_block other;
}

pub written_behind : (seg : List (List ℕ)) (k : ℕ) (block : List ℕ) → length seg ≡ k
    → Written seg (seg ++ block ∷ []) k block
written_behind seg k block long = record {
  here = appended_here seg block zero_block k long;
  others = λ n other. appended_other seg block zero_block n (λ e. other (e ∙ long));
}

seen_step : (x : Shape) (m : List (List (List (List ℕ)))) (seg to : List (List ℕ)) (w s i k l z : ℕ)
    (new : List ℕ) → Written seg to k new → (z / x.width ≢ s) ⊎ (z % x.width ≢ k)
    → seen_block x m to (place w s i (k + 1)) l z ≡ seen_block x m seg (place w s i k) l z
seen_step x m seg to w s i k l z new written apart = elim (cases_eq (z / x.width) s) [
  | inr other ↦ seen_other x m to (place w s i (k + 1)) l z other
      ∙ sym (seen_other x m seg (place w s i k) l z other)
  | inl here ↦
      let elsewhere : z % x.width ≢ k = elim apart [ inl other ↦ absurd (other here) | inr other ↦ other ] in
      seen_own x m to (place w s i (k + 1)) l z here
      ∙ written.others (z % x.width) elsewhere
      ∙ sym (seen_own x m seg (place w s i k) l z here)
]

Begun_put : (x : Shape) (m : List (List (List (List ℕ)))) (seg to : List (List ℕ)) (b : Table)
    (w s i k : ℕ) (new : List ℕ) → Written seg to k new → k < x.width → BeginsSegment x m seg b (place w s i k)
    → BeginsSegment x m to (put b w i (s * x.width + k) new) (place w s i (k + 1))
Begun_put x m seg to b w s i k new written low begun = record {
  shows = λ l z lane inside side.
      elim (cases_eq l i) [
        | inl own ↦ elim (cases_eq z (s * x.width + k)) [
          | inl here ↦
              let slice : z / x.width ≡ s = rw here (slice_of x.width s k low) in
              let index : z % x.width ≡ k = rw here (index_of x.width s k low) in
              seen_own x m to (place w s i (k + 1)) l z slice
              ∙ ap (λ (n : ℕ). slice_index_or to n zero_block) index
              ∙ written.here
              ∙ rw (own, here) (sym (latest_put_here x b w s i k new))
          | inr other ↦
              seen_step x m seg to w s i k l z new written (apart_of x.width s k z other)
              ∙ begun.shows l z lane inside (inl own)
              ∙ rw own (latest_put_column x b w s i k new z other)
        ]
        | inr other ↦
            let outside : IsOutside x s z = elim side [ inl own ↦ absurd (other own) | inr outside ↦ outside ] in
            seen_step x m seg to w s i k l z new written (inl (slice_outside x s z (omega arith) outside))
            ∙ begun.shows l z lane inside side
            ∙ latest_put_lane x b w s i k new l z other
      ];
}

pub Begun_next : (x : Shape) (h0 : List ℕ) (m : List (List (List (List ℕ)))) (seg to : List (List ℕ)) (b : Table)
    (w s i k : ℕ) (new : List ℕ) → Written seg to k new → k < x.width
    → new ≡ new_block x h0 (place w s i k) (latest x b (place w s i k)) → BeginsSegment x m seg b (place w s i k)
    → BeginsSegment x m to (with_block x h0 b (place w s i k)) (place w s i (k + 1))
unfolding with_block
Begun_next x h0 m seg to b w s i k new written low made begun =
    rw (← made) (Begun_put x m seg to b w s i k new written low begun)

-- ---- at the end

pub Begun_made : (x : Shape) (m : List (List (List (List ℕ)))) (seg : List (List ℕ)) (b : Table) (w s i k : ℕ)
    → i < x.lanes → s < 4 → k < x.width → s * x.width + k < columns x
    → BeginsSegment x m seg b (place w s i x.width) → slice_index_or seg k zero_block ≡ b w i (s * x.width + k)
Begun_made x m seg b w s i k lane slice low inside begun =
    let made : columns_made x (place w s i x.width) i ≡ s * x.width + x.width = made_here x w s i x.width in
    ap (λ (n : ℕ). slice_index_or seg n zero_block) (sym (index_of x.width s k low))
    ∙ sym (seen_own x m seg (place w s i x.width) i (s * x.width + k) (slice_of x.width s k low))
    ∙ begun.shows i (s * x.width + k) lane inside (inl refl)
    ∙ latest_made x b (place w s i x.width) i (s * x.width + k) (omega arith)

-- ---- the block of a place

-- where a reference goes, the segment sees the latest block
pub side_of : (x : Shape) (at : Place) (word lane column : ℕ) → 2 ≤ x.width → IsWithin x at
    → lane ≡ reference_lane x at (word / 2 ^ 32)
    → column ≡ reference_column x at lane (word % 2 ^ 32) → (lane ≡ at.lane) ⊎ IsOutside x at.slice column
side_of x at word lane column wide within lane_is column_is = elim (cases_eq lane at.lane) [
  | inl own ↦ inl own
  | inr other ↦
      let whole : column ≡ reference_column x at (reference_lane x at (word / 2 ^ 32)) (word % 2 ^ 32) =
      column_is ∙ ap (λ (l : ℕ). reference_column x at l (word % 2 ^ 32)) lane_is in
      elim (reference_apart x at word wide within (λ e. other (lane_is ∙ e))) [
        | inl under ↦ inr (inl (omega arith))
        | inr over ↦ inr (inr (omega arith))
      ]
]

pub joined_seen : (x : Shape) (m : List (List (List (List ℕ)))) (seg : List (List ℕ)) (b : Table) (at : Place) (before word lane column : ℕ)
    (previous referred new : List ℕ) → 2 ≤ x.width → IsWithin x at
    → before < columns x → before ≡ column_before x at → previous ≡ seen_block x m seg at at.lane before
    → word ≡ reference_word x at previous
    → lane < x.lanes → lane ≡ reference_lane x at (word / 2 ^ 32) → column < columns x
    → column ≡ reference_column x at lane (word % 2 ^ 32)
    → referred ≡ seen_block x m seg at lane column → BeginsSegment x m seg b at → new ≡ joined previous referred
    → new ≡ joined_block x at (latest x b at)
unfolding joined_block
joined_seen x m seg b at before word lane column previous referred new wide within before_inside before_is previous_is word_is lane_low lane_is column_inside column_is referred_is begun made =
    let own : previous ≡ latest x b at at.lane before =
    previous_is ∙ begun.shows at.lane before within.lane before_inside (inl refl) in
    let other : referred ≡ latest x b at lane column =
    referred_is ∙ begun.shows lane column lane_low column_inside
    (side_of x at word lane column wide within lane_is column_is) in
    rw (← before_is, ← own, ← word_is, ← lane_is, ← column_is, ← other) made

xored_swap : (y z : List ℕ) → xored y z ≡ xored z y
unfolding xored
xored_swap y z =
    ap (λ (f : ℕ → ℕ). map f (range_with_len 0 128)) (λ i n. xor_comm (slice_index y n) (slice_index z n) i)

-- in a later pass G's block is xored into the one that the segment has there
pub new_later_seen : (x : Shape) (h0 : List ℕ) (m : List (List (List (List ℕ)))) (seg : List (List ℕ)) (b : Table)
    (w s i k : ℕ) (block old new : List ℕ) → 0 < w → i < x.lanes → k < x.width
    → s * x.width + k < columns x → BeginsSegment x m seg b (place w s i k)
    → block ≡ joined_block x (place w s i k) (latest x b (place w s i k))
    → old ≡ slice_index_or seg k zero_block
    → new ≡ xored old block → new ≡ new_block x h0 (place w s i k) (latest x b (place w s i k))
unfolding new_block
new_later_seen x h0 m seg b w s i k block old new later low index inside begun joined_is old_is made =
    let not_first : (w == 0) ≡ false = grind (arith, nat_tests) in
    let here : old ≡ latest x b (place w s i k) i (s * x.width + k) =
    old_is ∙ ap (λ (n : ℕ). slice_index_or seg n zero_block) (sym (index_of x.width s k index))
    ∙ sym (seen_own x m seg (place w s i k) i (s * x.width + k) (slice_of x.width s k index))
    ∙ begun.shows i (s * x.width + k) low inside (inl refl) in
    rw (not_first, ← joined_is, ← here) (made ∙ xored_swap old block)
