-- The finished table meets the recursion that it was filled by.
use Rattle.std.proofs.Common.{◌≡◌, ℕ, zero, suc, ◌+◌, ◌-◌, ◌*◌, ◌/◌, ◌%◌, ◌^◌, ◌<◌, ◌≤◌, ◌≢◌, ◌==◌, ◌⊎◌, true}
use Rattle.std.proofs.Common.{false, nat_lt, List, inl, inr, refl, sym, ap, ◌∙◌, arith}
use Rattle.std.proofs.Math.Nat.{mul-le-mul_left}
use Rattle.std.proofs.lemmas.Bool.{cases_lt, cases_eq}
use Rattle.std.proofs.lemmas.Bool.Decides.{nat_tests}
use Rattle.argon_kdf.specs.declared.layout.Place.{Place}
use Rattle.argon_kdf.specs.Blocks.{joined}
use Rattle.argon_kdf.specs.Shapes.{Shape, IsWithin, column_of, column_before, place}
use Rattle.argon_kdf.specs.References.{reference_word, reference_lane, reference_column}
use Rattle.argon_kdf.specs.Tables.{Table, columns_made, latest}
use Rattle.argon_kdf.specs.Filling.{joined_block, new_block, with_block, with_places, with_lanes, with_slices}
use Rattle.argon_kdf.specs.Filling.{with_passes}
use Rattle.argon_kdf.proofs.Referring.{reference_made}
use Rattle.argon_kdf.proofs.Standing.{made_before, made_here, made_after, put_same, put_pass, put_lane}
use Rattle.argon_kdf.proofs.Standing.{put_column, latest_made, latest_old}
use Rattle.argon_kdf.proofs.Steps.{with_places_next, with_lanes_next, with_slices_next, with_passes_next}
use Rattle.argon_kdf.proofs.Steps.{with_places_none, with_lanes_none, with_slices_none}

-- the block of a pass, a lane and a column is made when the filling has come to a place
abbrev pub IsMade : Shape → Place → ℕ → ℕ → ℕ → Type 0
IsMade x at w l z = (w < at.pass) ⊎ ((w ≡ at.pass) × (z < columns_made x at l))

-- a table has the blocks of another that are made at a place
pub record Keeps (x : Shape) (at : Place) (now before : Table) : Type 0 where
  pub same : (w l z : ℕ) → IsMade x at w l z → now w l z ≡ before w l z

Keeps_refl : (x : Shape) (at : Place) (b : Table) → Keeps x at b b
Keeps_refl x at b = record { same = λ w l z made. refl }

Keeps_trans : (x : Shape) (at : Place) (c b a : Table) → Keeps x at c b → Keeps x at b a → Keeps x at c a
Keeps_trans x at c b a first second =
    record { same = λ w l z made. first.same w l z made ∙ second.same w l z made }

-- a block that is made later leaves what is made
block_keeps : (x : Shape) (h0 : List ℕ) (b : Table) (at to : Place) → at.pass ≤ to.pass
    → (at.pass ≡ to.pass → columns_made x at to.lane ≤ column_of x to)
    → Keeps x at (with_block x h0 b to) b
unfolding with_block
block_keeps x h0 b at to pass later = record {
  same = λ w l z made.
      elim (cases_eq w to.pass) [
        | inr other ↦ put_pass b to.pass to.lane (column_of x to)
            (new_block x h0 to (latest x b to)) w l z other
        | inl here ↦
            elim (cases_eq l to.lane) [
              | inr other ↦ put_lane b to.pass to.lane (column_of x to)
                  (new_block x h0 to (latest x b to)) w l z other
              | inl lane ↦
                  put_column b to.pass to.lane (column_of x to) (new_block x h0 to (latest x b to)) w l z
                  (λ column.
                  elim made [
                    | inl earlier ↦ omega arith
                    | inr now ↦
                        let same_lane : columns_made x at l ≡ columns_made x at to.lane =
                        ap (columns_made x at) lane in
                        let high : columns_made x at to.lane ≤ column_of x to = later (sym now.0 ∙ here) in
                        omega arith
                  ])
            ]
      ];
}

-- ---- from one count to a later one

places_keep : (x : Shape) (h0 : List ℕ) (b : Table) (at : Place) (w s i n more : ℕ) → at.pass ≤ w
    → (at.pass ≡ w → columns_made x at i ≤ s * x.width + n)
    → Keeps x at (with_places x h0 b w s i (n + more)) (with_places x h0 b w s i n)
places_keep x h0 b at w s i n zero pass later =
    let same : n + 0 ≡ n = omega arith in
    rw same (Keeps_refl x at (with_places x h0 b w s i n))
places_keep x h0 b at w s i n (suc more) pass later =
    let next : n + suc more ≡ n + more + 1 = omega arith in
    rw (next, with_places_next x h0 b w s i (n + more))
    (Keeps_trans x at (with_block x h0 (with_places x h0 b w s i (n + more)) (place w s i (n + more)))
    (with_places x h0 b w s i (n + more)) (with_places x h0 b w s i n)
    (block_keeps x h0 (with_places x h0 b w s i (n + more)) at (place w s i (n + more)) pass
    (λ same. omega (arith, later same)))
    (places_keep x h0 b at w s i n more pass later))

segment_keeps : (x : Shape) (h0 : List ℕ) (b : Table) (at : Place) (w s i : ℕ) → at.pass ≤ w
    → (at.pass ≡ w → columns_made x at i ≤ s * x.width)
    → Keeps x at (with_places x h0 b w s i x.width) b
segment_keeps x h0 b at w s i pass later =
    let whole : 0 + x.width ≡ x.width = omega arith in
    rw (with_places_none x h0 b w s i) at (rw whole at
    (places_keep x h0 b at w s i 0 x.width pass (λ same. omega (arith, later same))))

lanes_keep : (x : Shape) (h0 : List ℕ) (b : Table) (at : Place) (w s n more : ℕ) → at.pass ≤ w
    → (at.pass ≡ w → (l : ℕ) → n ≤ l → columns_made x at l ≤ s * x.width)
    → Keeps x at (with_lanes x h0 b w s (n + more)) (with_lanes x h0 b w s n)
lanes_keep x h0 b at w s n zero pass later =
    let same : n + 0 ≡ n = omega arith in
    rw same (Keeps_refl x at (with_lanes x h0 b w s n))
lanes_keep x h0 b at w s n (suc more) pass later =
    let next : n + suc more ≡ n + more + 1 = omega arith in
    rw (next, with_lanes_next x h0 b w s (n + more))
    (Keeps_trans x at (with_places x h0 (with_lanes x h0 b w s (n + more)) w s (n + more) x.width)
    (with_lanes x h0 b w s (n + more)) (with_lanes x h0 b w s n)
    (segment_keeps x h0 (with_lanes x h0 b w s (n + more)) at w s (n + more) pass
    (λ same. later same (n + more) (omega arith)))
    (lanes_keep x h0 b at w s n more pass later))

slice_keeps : (x : Shape) (h0 : List ℕ) (b : Table) (at : Place) (w s : ℕ) → at.pass ≤ w
    → (at.pass ≡ w → (l : ℕ) → columns_made x at l ≤ s * x.width)
    → Keeps x at (with_lanes x h0 b w s x.lanes) b
slice_keeps x h0 b at w s pass later =
    let whole : 0 + x.lanes ≡ x.lanes = omega arith in
    rw (with_lanes_none x h0 b w s) at (rw whole at
    (lanes_keep x h0 b at w s 0 x.lanes pass (λ same l low. later same l)))

slices_keep : (x : Shape) (h0 : List ℕ) (b : Table) (at : Place) (w n more : ℕ) → at.pass ≤ w
    → (at.pass ≡ w → (l s : ℕ) → n ≤ s → columns_made x at l ≤ s * x.width)
    → Keeps x at (with_slices x h0 b w (n + more)) (with_slices x h0 b w n)
slices_keep x h0 b at w n zero pass later =
    let same : n + 0 ≡ n = omega arith in
    rw same (Keeps_refl x at (with_slices x h0 b w n))
slices_keep x h0 b at w n (suc more) pass later =
    let next : n + suc more ≡ n + more + 1 = omega arith in
    rw (next, with_slices_next x h0 b w (n + more))
    (Keeps_trans x at (with_lanes x h0 (with_slices x h0 b w (n + more)) w (n + more) x.lanes)
    (with_slices x h0 b w (n + more)) (with_slices x h0 b w n)
    (slice_keeps x h0 (with_slices x h0 b w (n + more)) at w (n + more) pass
    (λ same l. later same l (n + more) (omega arith)))
    (slices_keep x h0 b at w n more pass later))

pass_keeps : (x : Shape) (h0 : List ℕ) (b : Table) (at : Place) (w : ℕ) → at.pass < w
    → Keeps x at (with_slices x h0 b w 4) b
pass_keeps x h0 b at w later =
    rw (with_slices_none x h0 b w) at (slices_keep x h0 b at w 0 4 (omega arith)
    (λ same l s low. absurd (omega arith)))

passes_keep : (x : Shape) (h0 : List ℕ) (at : Place) (n more : ℕ) → at.pass < n
    → Keeps x at (with_passes x h0 (n + more)) (with_passes x h0 n)
passes_keep x h0 at n zero later =
    let same : n + 0 ≡ n = omega arith in
    rw same (Keeps_refl x at (with_passes x h0 n))
passes_keep x h0 at n (suc more) later =
    let next : n + suc more ≡ n + more + 1 = omega arith in
    rw (next, with_passes_next x h0 (n + more))
    (Keeps_trans x at (with_slices x h0 (with_passes x h0 (n + more)) (n + more) 4)
    (with_passes x h0 (n + more)) (with_passes x h0 n)
    (pass_keeps x h0 (with_passes x h0 (n + more)) at (n + more) (omega arith))
    (passes_keep x h0 at n more later))

-- ---- a place of the finished table

-- once the next block is made, so are all that were made before, and the block itself
made_on : (x : Shape) (w s i k p l z : ℕ) → IsMade x (place w s i k) p l z
    → IsMade x (place w s i (k + 1)) p l z
made_on x w s i k p l z (inl earlier) = inl earlier
made_on x w s i k p l z (inr now) =
    let more : columns_made x (place w s i k) l ≤ columns_made x (place w s i (k + 1)) l =
    elim (cases_lt l i) [
      | inl under ↦ omega (arith, made_before x w s i k l under, made_before x w s i (k + 1) l under)
      | inr over ↦
          elim (cases_eq l i) [
            | inl here ↦ rw here (omega (arith, made_here x w s i k, made_here x w s i (k + 1)))
            | inr other ↦ omega (
              arith,
              made_after x w s i k l (omega arith),
              made_after x w s i (k + 1) l (omega arith),
            )
          ]
    ] in
    inr (now.0, omega (arith, now.1, more))

-- no lane has more columns made than the slice has
made_most : (x : Shape) (w s i k l : ℕ) → k ≤ x.width
    → columns_made x (place w s i k) l ≤ s * x.width + x.width
made_most x w s i k l low =
    elim (cases_lt l i) [
      | inl under ↦ omega (arith, made_before x w s i k l under)
      | inr over ↦
          elim (cases_eq l i) [
            | inl here ↦ rw here (omega (arith, made_here x w s i k))
            | inr other ↦ omega (arith, made_after x w s i k l (omega arith))
          ]
    ]

-- the table that has come to a place
abbrev pub come_to : Shape → List ℕ → ℕ → ℕ → ℕ → ℕ → Table
come_to x h0 w s i k =
    with_places x h0 (with_lanes x h0 (with_slices x h0 (with_passes x h0 w) w s) w s i) w s i k

finished_keeps : (x : Shape) (h0 : List ℕ) (t w s i k : ℕ) → w < t → s < 4 → i < x.lanes → k < x.width
    → Keeps x (place w s i (k + 1)) (with_passes x h0 t) (come_to x h0 w s i (k + 1))
finished_keeps x h0 t w s i k pass slice lane index =
    let to : Place = place w s i (k + 1) in
    let b0 : Table = with_passes x h0 w in
    let b1 : Table = with_slices x h0 b0 w s in
    let b2 : Table = with_lanes x h0 b1 w s i in
    let places : k + 1 + (x.width - (k + 1)) ≡ x.width = omega arith in
    let lanes : i + 1 + (x.lanes - (i + 1)) ≡ x.lanes = omega arith in
    let slices : s + 1 + (4 - (s + 1)) ≡ 4 = omega arith in
    let passes : w + 1 + (t - (w + 1)) ≡ t = omega arith in
    let segment : Keeps x to (with_places x h0 b2 w s i x.width) (come_to x h0 w s i (k + 1)) =
    rw places at (places_keep x h0 b2 to w s i (k + 1) (x.width - (k + 1)) (omega arith)
    (λ same. omega (arith, made_here x w s i (k + 1)))) in
    let row : Keeps x to (with_lanes x h0 b1 w s x.lanes) (with_lanes x h0 b1 w s (i + 1)) =
    rw lanes at (lanes_keep x h0 b1 to w s (i + 1) (x.lanes - (i + 1)) (omega arith)
    (λ same l low. omega (arith, made_after x w s i (k + 1) l (omega arith)))) in
    let later : Keeps x to (with_slices x h0 b0 w 4) (with_slices x h0 b0 w (s + 1)) =
    rw slices at (slices_keep x h0 b0 to w (s + 1) (4 - (s + 1)) (omega arith) (λ same l r low.
    omega (arith, made_most x w s i (k + 1) l (omega arith), mul-le-mul_left x.width low))) in
    let last : Keeps x to (with_passes x h0 t) (with_passes x h0 (w + 1)) =
    rw passes at (passes_keep x h0 to (w + 1) (t - (w + 1)) (omega arith)) in
    let slice_is : Keeps x to (with_lanes x h0 b1 w s (i + 1)) (come_to x h0 w s i (k + 1)) =
    rw (with_lanes_next x h0 b1 w s i) segment in
    let pass_is : Keeps x to (with_slices x h0 b0 w (s + 1)) (come_to x h0 w s i (k + 1)) =
    rw (with_slices_next x h0 b0 w s)
    (Keeps_trans x to (with_lanes x h0 b1 w s x.lanes) (with_lanes x h0 b1 w s (i + 1))
    (come_to x h0 w s i (k + 1)) row slice_is) in
    let table_is : Keeps x to (with_passes x h0 (w + 1)) (come_to x h0 w s i (k + 1)) =
    rw (with_passes_next x h0 w)
    (Keeps_trans x to (with_slices x h0 b0 w 4) (with_slices x h0 b0 w (s + 1))
    (come_to x h0 w s i (k + 1)) later pass_is) in
    Keeps_trans x to (with_passes x h0 t) (with_passes x h0 (w + 1))
    (come_to x h0 w s i (k + 1)) last table_is

-- the finished table has what was made before the place
finished_keeps_before : (x : Shape) (h0 : List ℕ) (t w s i k : ℕ) → w < t → s < 4 → i < x.lanes → k < x.width
    → Keeps x (place w s i k) (with_passes x h0 t) (come_to x h0 w s i k)
finished_keeps_before x h0 t w s i k pass slice lane index =
    let at : Place = place w s i k in
    let b : Table = come_to x h0 w s i k in
    let b2 : Table = with_lanes x h0 (with_slices x h0 (with_passes x h0 w) w s) w s i in
    let step : Keeps x at (with_block x h0 b at) b =
    block_keeps x h0 b at at (omega arith) (λ same. omega (arith, made_here x w s i k)) in
    record {
      same = λ p l z made.
          (finished_keeps x h0 t w s i k pass slice lane index).same p l z (made_on x w s i k p l z made)
          ∙ rw (with_places_next x h0 b2 w s i k) (step.same p l z made);
    }

-- ---- the blocks that are read

pub joined_same : (x : Shape) (at : Place) (now other : ℕ → ℕ → List ℕ)
    → now at.lane (column_before x at) ≡ other at.lane (column_before x at)
    → ((word : ℕ) → now (reference_lane x at (word / 2 ^ 32))
    (reference_column x at (reference_lane x at (word / 2 ^ 32)) (word % 2 ^ 32))
    ≡ other (reference_lane x at (word / 2 ^ 32))
    (reference_column x at (reference_lane x at (word / 2 ^ 32)) (word % 2 ^ 32)))
    → joined_block x at now ≡ joined_block x at other
unfolding joined_block
joined_same x at now other previous referred =
    let at_word : ℕ → List ℕ = λ (word : ℕ). other (reference_lane x at (word / 2 ^ 32))
    (reference_column x at (reference_lane x at (word / 2 ^ 32)) (word % 2 ^ 32)) in
    let second = referred (reference_word x at (now at.lane (column_before x at)))
    ∙ ap (λ (block : List ℕ). at_word (reference_word x at block)) previous in
    λ j. joined (previous j) (second j)

pub new_first_same : (x : Shape) (h0 : List ℕ) (at : Place) (now other : ℕ → ℕ → List ℕ) → at.pass ≡ 0
    → column_of x at < 2
    → new_block x h0 at now ≡ new_block x h0 at other
unfolding new_block
new_first_same x h0 at now other first low =
    let is_first : (at.pass == 0) ≡ true = grind (arith, nat_tests) in
    let is_low : nat_lt (column_of x at) 2 ≡ true = grind (arith, nat_tests) in
    rw (is_first, is_low) refl

pub new_joined_same : (x : Shape) (h0 : List ℕ) (at : Place) (now other : ℕ → ℕ → List ℕ) → at.pass ≡ 0
    → 2 ≤ column_of x at
    → joined_block x at now ≡ joined_block x at other → new_block x h0 at now ≡ new_block x h0 at other
unfolding new_block
new_joined_same x h0 at now other first past same =
    let is_first : (at.pass == 0) ≡ true = grind (arith, nat_tests) in
    let is_past : nat_lt (column_of x at) 2 ≡ false = grind (arith, nat_tests) in
    rw (is_first, is_past) same

column_before_past : (x : Shape) (at : Place) → 2 ≤ column_of x at → column_before x at ≡ column_of x at - 1
column_before_past x at past = grind (arith, nat_tests)

-- ---- the recursion

latest_kept : (x : Shape) (at : Place) (t b : Table) → Keeps x at t b → (l z : ℕ) → z < columns_made x at l
    → latest x b at l z ≡ latest x t at l z
latest_kept x at t b kept l z low =
    latest_made x b at l z low ∙ sym (kept.same at.pass l z (inr (refl, low)))
    ∙ sym (latest_made x t at l z low)

latest_kept_later : (x : Shape) (at : Place) (t b : Table) → Keeps x at t b → at.pass ≢ 0 → (l z : ℕ)
    → latest x b at l z ≡ latest x t at l z
latest_kept_later x at t b kept later l z =
    elim (cases_lt z (columns_made x at l)) [
      | inl low ↦ latest_kept x at t b kept l z low
      | inr high ↦ latest_old x b at l z high ∙ sym (kept.same (at.pass - 1) l z (inl (omega arith)))
          ∙ sym (latest_old x t at l z high)
    ]

read_same : (x : Shape) (h0 : List ℕ) (at : Place) (t b : Table) → 2 ≤ x.width → IsWithin x at
    → Keeps x at t b
    → new_block x h0 at (latest x b at) ≡ new_block x h0 at (latest x t at)
read_same x h0 at t b wide within kept =
    elim (cases_eq at.pass 0) [
      | inr later ↦ λ j. new_block x h0 at (λ l z. latest_kept_later x at t b kept later l z j)
      | inl first ↦
          elim (cases_lt (column_of x at) 2) [
            | inl low ↦ new_first_same x h0 at (latest x b at) (latest x t at) first low
            | inr past ↦
                let before : column_before x at < columns_made x at at.lane =
                omega (arith, column_before_past x at past, made_here x at.pass at.slice at.lane at.index) in
                new_joined_same x h0 at (latest x b at) (latest x t at) first past
                (joined_same x at (latest x b at) (latest x t at)
                (latest_kept x at t b kept at.lane (column_before x at) before)
                (λ word. latest_kept x at t b kept (reference_lane x at (word / 2 ^ 32))
                (reference_column x at (reference_lane x at (word / 2 ^ 32)) (word % 2 ^ 32))
                (reference_made x at word wide within first past)))
          ]
    ]

block_itself : (x : Shape) (h0 : List ℕ) (b : Table) (w s i k : ℕ)
    → with_block x h0 b (place w s i k) w i (s * x.width + k)
    ≡ new_block x h0 (place w s i k) (latest x b (place w s i k))
unfolding with_block
block_itself x h0 b w s i k =
    put_same b w i (s * x.width + k) (new_block x h0 (place w s i k) (latest x b (place w s i k)))

pub each_block : (x : Shape) (h0 : List ℕ) (t : ℕ) (at : Place) → 2 ≤ x.width → at.pass < t → IsWithin x at
    → with_passes x h0 t at.pass at.lane (column_of x at)
    ≡ new_block x h0 at (latest x (with_passes x h0 t) at)
each_block x h0 t at wide pass within =
    let w : ℕ = at.pass in
    let s : ℕ = at.slice in
    let i : ℕ = at.lane in
    let k : ℕ = at.index in
    let b : Table = come_to x h0 w s i k in
    let b2 : Table = with_lanes x h0 (with_slices x h0 (with_passes x h0 w) w s) w s i in
    let itself : IsMade x (place w s i (k + 1)) w i (s * x.width + k) =
    inr (refl, omega (arith, made_here x w s i (k + 1))) in
    (finished_keeps x h0 t w s i k pass within.slice within.lane within.index).same w i
    (s * x.width + k) itself
    ∙ ap (λ (table : Table). table w i (s * x.width + k)) (with_places_next x h0 b2 w s i k)
    ∙ block_itself x h0 b w s i k
    ∙ read_same x h0 at (with_passes x h0 t) b wide within
    (finished_keeps_before x h0 t w s i k pass within.slice within.lane within.index)
