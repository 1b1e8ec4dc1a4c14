-- The segments of a slice do not see one another: made one after the other, or each from the table before
-- the slice, they have the same blocks.
use Rattle.std.proofs.Common.{◌≡◌, ℕ, zero, suc, ◌+◌, ◌-◌, ◌*◌, ◌/◌, ◌%◌, ◌^◌, ◌<◌, ◌≤◌, ◌≢◌, ◌⊎◌, ◌==◌}
use Rattle.std.proofs.Common.{false, List, inl, inr, refl, sym, ◌∙◌, arith}
use Rattle.std.proofs.lemmas.Bool.{cases_lt, cases_eq}
use Rattle.std.proofs.lemmas.Bool.Decides.{nat_tests}
use Rattle.std.specs.Prelude.{if◌then◌else◌}
use Rattle.argon_kdf.specs.declared.layout.Place.{Place}
use Rattle.argon_kdf.specs.Blocks.{xored}
use Rattle.argon_kdf.specs.Shapes.{Shape, IsWithin, place, columns, column_of, column_before}
use Rattle.argon_kdf.specs.References.{reference_lane, reference_column}
use Rattle.argon_kdf.specs.Tables.{Table, put, columns_made, latest}
use Rattle.argon_kdf.specs.Filling.{joined_block, new_block, with_block, with_places, with_lanes}
use Rattle.argon_kdf.specs.SeenBlocks.{IsOutside}
use Rattle.argon_kdf.specs.Memory.{Shows}
use Rattle.argon_kdf.proofs.Recursion.{joined_same, new_first_same, new_joined_same}
use Rattle.argon_kdf.proofs.SegmentLemmas.{side_of, begin_made}
use Rattle.argon_kdf.proofs.Standing.{put_lane, put_column, latest_made, latest_old, latest_same}

-- two tables with equal blocks wherever a lane's segment of a slice may read
pub record Agree (x : Shape) (s i : ℕ) (b c : Table) : Type 0 where
  pub own : (w z : ℕ) → b w i z ≡ c w i z
  pub outside : (w l z : ℕ) → IsOutside x s z → b w l z ≡ c w l z

picked : (x : Shape) (s i : ℕ) (b c : Table) (w l z : ℕ) → Agree x s i b c → (l ≡ i) ⊎ IsOutside x s z
    → b w l z ≡ c w l z
picked x s i b c w l z agree (inl own) = rw own (agree.own w z)
picked x s i b c w l z agree (inr out) = agree.outside w l z out

latest_agree : (x : Shape) (b c : Table) (at : Place) (l z : ℕ) → Agree x at.slice at.lane b c
    → (l ≡ at.lane) ⊎ IsOutside x at.slice z → latest x b at l z ≡ latest x c at l z
latest_agree x b c at l z agree side =
    latest_same x b c at at l z refl refl (picked x at.slice at.lane b c at.pass l z agree side)
    (picked x at.slice at.lane b c (at.pass - 1) l z agree side)

new_later_same : (x : Shape) (h0 : List ℕ) (at : Place) (now other : ℕ → ℕ → List ℕ) → at.pass ≢ 0
    → joined_block x at now ≡ joined_block x at other
    → now at.lane (column_of x at) ≡ other at.lane (column_of x at)
    → new_block x h0 at now ≡ new_block x h0 at other
unfolding new_block
new_later_same x h0 at now other later same old =
    let not_first : (at.pass == 0) ≡ false = grind (arith, nat_tests) in
    rw not_first (λ j. xored (same j) (old j))

block_agree : (x : Shape) (h0 : List ℕ) (b c : Table) (at : Place) → 2 ≤ x.width → IsWithin x at
    → Agree x at.slice at.lane b c
    → new_block x h0 at (latest x b at) ≡ new_block x h0 at (latest x c at)
block_agree x h0 b c at wide within agree =
    let joined : joined_block x at (latest x b at) ≡ joined_block x at (latest x c at) =
    joined_same x at (latest x b at) (latest x c at)
    (latest_agree x b c at at.lane (column_before x at) agree (inl refl))
    (λ word. latest_agree x b c at (reference_lane x at (word / 2 ^ 32))
    (reference_column x at (reference_lane x at (word / 2 ^ 32)) (word % 2 ^ 32)) agree
    (side_of x at word (reference_lane x at (word / 2 ^ 32))
    (reference_column x at (reference_lane x at (word / 2 ^ 32))
    (word % 2 ^ 32)) wide within refl refl)) in
    elim (cases_eq at.pass 0) [
      | inr later ↦ new_later_same x h0 at (latest x b at) (latest x c at) later joined
          (latest_agree x b c at at.lane (column_of x at) agree (inl refl))
      | inl first ↦ elim (cases_lt (column_of x at) 2) [
        | inl low ↦ new_first_same x h0 at (latest x b at) (latest x c at) first low
        | inr past ↦ new_joined_same x h0 at (latest x b at) (latest x c at) first past joined
      ]
    ]

put_agree : (b c : Table) (w i j : ℕ) (new other : List ℕ) (p l z : ℕ) → new ≡ other → b p l z ≡ c p l z
    → put b w i j new p l z ≡ put c w i j other p l z
unfolding put
put_agree b c w i j new other p l z same rest =
    (λ t. if p == w then if l == i then if z == j then same t else rest t else rest t else rest t)

places_agree : (x : Shape) (h0 : List ℕ) (b c : Table) (w s i n : ℕ) → 2 ≤ x.width → s < 4 → i < x.lanes
    → n ≤ x.width → Agree x s i b c
    → Agree x s i (with_places x h0 b w s i n) (with_places x h0 c w s i n)
unfolding with_places with_block
places_agree x h0 b c w s i zero wide slice lane low agree = agree
places_agree x h0 b c w s i (suc n) wide slice lane low agree =
    let before : Agree x s i (with_places x h0 b w s i n) (with_places x h0 c w s i n) =
    places_agree x h0 b c w s i n wide slice lane (omega arith) agree in
    let same = block_agree x h0 (with_places x h0 b w s i n) (with_places x h0 c w s i n) (place w s i n) wide
    (record { slice = slice; lane = lane; index = omega arith }) before in
    record {
      own =
          λ p z. put_agree (with_places x h0 b w s i n) (with_places x h0 c w s i n) w i
          (s * x.width + n) _ _ p i z same (before.own p z);
      outside =
          λ p l z out. put_agree (with_places x h0 b w s i n) (with_places x h0 c w s i n) w i
          (s * x.width + n) _ _ p l z same (before.outside p l z out);
    }

-- ---- what a segment leaves as it is

places_outside : (x : Shape) (h0 : List ℕ) (b : Table) (w s i n p l z : ℕ) → n ≤ x.width → IsOutside x s z
    → with_places x h0 b w s i n p l z ≡ b p l z
unfolding with_places with_block
places_outside x h0 b w s i zero p l z low out = refl
places_outside x h0 b w s i (suc n) p l z low out =
    let other : z ≢ s * x.width + n = λ e. elim out [ inl under ↦ omega arith | inr over ↦ omega arith ] in
    put_column (with_places x h0 b w s i n) w i (s * x.width + n) _ p l z other
    ∙ places_outside x h0 b w s i n p l z (omega arith) out

places_other : (x : Shape) (h0 : List ℕ) (b : Table) (w s i n p l z : ℕ) → l ≢ i
    → with_places x h0 b w s i n p l z ≡ b p l z
unfolding with_places with_block
places_other x h0 b w s i zero p l z other = refl
places_other x h0 b w s i (suc n) p l z other =
    put_lane (with_places x h0 b w s i n) w i (s * x.width + n) _ p l z other
    ∙ places_other x h0 b w s i n p l z other

pub lanes_outside : (x : Shape) (h0 : List ℕ) (b : Table) (w s n p l z : ℕ) → IsOutside x s z
    → with_lanes x h0 b w s n p l z ≡ b p l z
unfolding with_lanes
lanes_outside x h0 b w s zero p l z out = refl
lanes_outside x h0 b w s (suc n) p l z out =
    places_outside x h0 (with_lanes x h0 b w s n) w s n x.width p l z (omega arith) out
    ∙ lanes_outside x h0 b w s n p l z out

lanes_later : (x : Shape) (h0 : List ℕ) (b : Table) (w s n p l z : ℕ) → n ≤ l
    → with_lanes x h0 b w s n p l z ≡ b p l z
unfolding with_lanes
lanes_later x h0 b w s zero p l z low = refl
lanes_later x h0 b w s (suc n) p l z low =
    places_other x h0 (with_lanes x h0 b w s n) w s n x.width p l z (omega arith)
    ∙ lanes_later x h0 b w s n p l z (omega arith)

-- a lane's segment is that which is made from the table before the slice
pub slice_alone : (x : Shape) (h0 : List ℕ) (b : Table) (w s n p l z : ℕ) → 2 ≤ x.width → s < 4 → n ≤ x.lanes
    → l < n
    → with_lanes x h0 b w s n p l z ≡ with_places x h0 b w s l x.width p l z
unfolding with_lanes
slice_alone x h0 b w s zero p l z wide slice most low = absurd (omega arith)
slice_alone x h0 b w s (suc n) p l z wide slice most low =
    let before : Table = with_lanes x h0 b w s n in
    let agree : Agree x s n before b = record {
      own = λ q y. lanes_later x h0 b w s n q n y (omega arith);
      outside = λ q m y out. lanes_outside x h0 b w s n q m y out;
    } in
    elim (cases_eq l n) [
      | inl here ↦ rw here ((places_agree x h0 before b w s n x.width wide slice (omega arith)
          (omega arith) agree).own p z)
      | inr other ↦ places_other x h0 before w s n x.width p l z other
          ∙ slice_alone x h0 b w s n p l z wide slice (omega arith) (omega arith)
    ]

-- ---- the segments in their places

next_row : (s g : ℕ) → (s + 1) * g ≡ s * g + g
next_row s g = grind arith

pub Shows_placed : (x : Shape) (h0 : List ℕ) (m now : ℕ → ℕ → List ℕ) (b : Table) (w s : ℕ) → 2 ≤ x.width
    → s < 4 → Shows x m b (place w s 0 0)
    → ((l k : ℕ) → l < x.lanes → k < x.width → now l (s * x.width + k)
    ≡ with_places x h0 b w s l x.width w l (s * x.width + k))
    → ((l z : ℕ) → l < x.lanes → z < columns x → IsOutside x s z → now l z ≡ m l z)
    → Shows x now (with_lanes x h0 b w s x.lanes) (place w (s + 1) 0 0)
Shows_placed x h0 m now b w s wide slice st placed kept =
    let t : Table = with_lanes x h0 b w s x.lanes in
    record {
      shows = λ l z low inside.
          let end : columns_made x (place w (s + 1) 0 0) l ≡ s * x.width + x.width =
          begin_made x w (s + 1) l ∙ next_row s x.width in
          let begin : columns_made x (place w s 0 0) l ≡ s * x.width = begin_made x w s l in
          elim (cases_lt z (s * x.width)) [
            | inl under ↦
                kept l z low inside (inl under) ∙ st.shows l z low inside
                ∙ latest_made x b (place w s 0 0) l z (omega arith)
                ∙ sym (lanes_outside x h0 b w s x.lanes w l z (inl under))
                ∙ sym (latest_made x t (place w (s + 1) 0 0) l z (omega arith))
            | inr from ↦ elim (cases_lt z (s * x.width + x.width)) [
              | inl to ↦
                  let k : ℕ = z - s * x.width in
                  let z_is : s * x.width + k ≡ z = omega arith in
                  let here = placed l k low (omega arith)
                  ∙ sym (slice_alone x h0 b w s x.lanes w l (s * x.width + k) wide slice
                  (omega arith) low) in
                  rw z_is at here ∙ sym (latest_made x t (place w (s + 1) 0 0) l z (omega arith))
              | inr past ↦
                  kept l z low inside (inr past) ∙ st.shows l z low inside
                  ∙ latest_old x b (place w s 0 0) l z (omega arith)
                  ∙ sym (lanes_outside x h0 b w s x.lanes (w - 1) l z (inr past))
                  ∙ sym (latest_old x t (place w (s + 1) 0 0) l z (omega arith))
            ]
          ];
    }
