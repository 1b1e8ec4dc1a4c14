-- Where the references go: in the first pass only to made blocks, and never into another lane's segment of
-- the same slice.
use Rattle.std.proofs.Common.{◌≡◌, ℕ, ◌+◌, ◌-◌, ◌*◌, ◌/◌, ◌%◌, ◌^◌, ◌<◌, ◌≤◌, ◌≢◌, ◌⊎◌, inl, inr, refl, ap}
use Rattle.std.proofs.Common.{◌∙◌, arith}
use Rattle.std.proofs.Math.Nat.{mul-le-mul_left, mod-eq_of_lt, add-mul-mod_self_right}
use Rattle.std.proofs.lemmas.Bool.{cases_lt, cases_eq}
use Rattle.std.proofs.lemmas.Bool.Decides.{nat_tests}
use Rattle.argon_kdf.specs.declared.layout.Place.{Place}
use Rattle.argon_kdf.specs.Shapes.{Shape, IsWithin, columns, column_of}
use Rattle.argon_kdf.specs.References.{reference_lane, finished, choices, choice, oldest, reference_column}
use Rattle.argon_kdf.specs.Tables.{columns_made}
use Rattle.argon_kdf.proofs.Standing.{made_before, made_here, made_after}

choice_low : (count j1 : ℕ) → 1 ≤ count → choice count j1 < count
choice_low count j1 some = omega arith

-- ---- the parts, by pass and slice

own_at_start : (x : Shape) (at : Place) (j2 : ℕ) → at.pass ≡ 0 → at.slice ≡ 0
    → reference_lane x at j2 ≡ at.lane
unfolding reference_lane
own_at_start x at j2 first begin = grind (arith, nat_tests)

finished_first : (x : Shape) (at : Place) → at.pass ≡ 0 → finished x at ≡ at.slice * x.width
unfolding finished
finished_first x at first = grind (arith, nat_tests)

finished_later : (x : Shape) (at : Place) → at.pass ≢ 0 → finished x at ≡ 4 * x.width - x.width
unfolding finished
finished_later x at later = grind (arith, nat_tests)

oldest_first : (x : Shape) (at : Place) → at.pass ≡ 0 → oldest x at ≡ 0
unfolding oldest
oldest_first x at first = grind (arith, nat_tests)

oldest_last : (x : Shape) (at : Place) → at.slice ≡ 3 → oldest x at ≡ 0
unfolding oldest
oldest_last x at last = grind (arith, nat_tests)

oldest_later : (x : Shape) (at : Place) → at.pass ≢ 0 → at.slice ≢ 3 → oldest x at ≡ (at.slice + 1) * x.width
unfolding oldest
oldest_later x at later inner = grind (arith, nat_tests)

choices_own : (x : Shape) (at : Place) → choices x at at.lane ≡ finished x at + at.index - 1
unfolding choices
choices_own x at = grind (arith, nat_tests)

choices_other : (x : Shape) (at : Place) (lane : ℕ) → lane ≢ at.lane → choices x at lane ≤ finished x at
unfolding choices
choices_other x at lane other = grind (arith, nat_tests)

choices_other_some : (x : Shape) (at : Place) (lane : ℕ) → lane ≢ at.lane → 2 ≤ finished x at
    → 1 ≤ choices x at lane
unfolding choices
choices_other_some x at lane other some = grind (arith, nat_tests)

reference_column_is : (x : Shape) (at : Place) (lane j1 : ℕ)
    → reference_column x at lane j1 ≡ (oldest x at + choice (choices x at lane) j1) % columns x
unfolding reference_column
reference_column_is x at lane j1 = refl

-- a column that the sum of the oldest and the choice gives without going round
column_straight : (x : Shape) (at : Place) (lane j1 total : ℕ)
    → oldest x at + choice (choices x at lane) j1 ≡ total → total < columns x
    → reference_column x at lane j1 ≡ total
column_straight x at lane j1 total is low =
    reference_column_is x at lane j1 ∙ ap (λ (n : ℕ). n % columns x) is ∙ mod-eq_of_lt low

-- a column that it gives once round
column_round : (x : Shape) (at : Place) (lane j1 rest : ℕ)
    → oldest x at + choice (choices x at lane) j1 ≡ rest + 1 * columns x → rest < columns x
    → reference_column x at lane j1 ≡ rest
column_round x at lane j1 rest is low =
    reference_column_is x at lane j1 ∙ ap (λ (n : ℕ). n % columns x) is
    ∙ add-mul-mod_self_right rest 1 (columns x) ∙ mod-eq_of_lt low

-- a slice ends within its lane
slice_end : (x : Shape) (at : Place) → at.slice < 4 → at.slice * x.width + x.width ≤ columns x
slice_end x at low =
    omega (arith, mul-le-mul_left x.width (let next : at.slice + 1 ≤ 4 = omega arith in next))

-- ---- the first pass refers to made blocks

pub reference_made : (x : Shape) (at : Place) (word : ℕ) → 2 ≤ x.width → IsWithin x at → at.pass ≡ 0
    → 2 ≤ column_of x at
    → reference_column x at (reference_lane x at (word / 2 ^ 32)) (word % 2 ^ 32) < columns_made x at
    (reference_lane x at (word / 2 ^ 32))
reference_made x at word wide within first begun =
    let lane : ℕ = reference_lane x at (word / 2 ^ 32) in
    let j1 : ℕ = word % 2 ^ 32 in
    let end : at.slice * x.width + x.width ≤ columns x = slice_end x at within.slice in
    elim (cases_eq lane at.lane) [
      | inl own ↦
          let count : choices x at lane ≡ at.slice * x.width + at.index - 1 =
          rw own (choices_own x at ∙ rw (finished_first x at first) refl) in
          let low : choice (choices x at lane) j1 < choices x at lane =
          choice_low (choices x at lane) j1 (omega arith) in
          let whole : reference_column x at lane j1 ≡ choice (choices x at lane) j1 =
          column_straight x at lane j1 (choice (choices x at lane) j1)
          (omega (arith, oldest_first x at first)) (omega (arith, within.index)) in
          let made : columns_made x at lane ≡ at.slice * x.width + at.index =
          rw own (made_here x at.pass at.slice at.lane at.index) in
          omega arith
      | inr other ↦
          let started : at.slice ≡ 0 → ⊥ = λ zero. other (own_at_start x at (word / 2 ^ 32) first zero) in
          let one : 1 ≤ at.slice = omega arith in
          let past : x.width * 1 ≤ x.width * at.slice = mul-le-mul_left x.width one in
          let done : finished x at ≡ at.slice * x.width = finished_first x at first in
          let low : choice (choices x at lane) j1 < choices x at lane =
          choice_low (choices x at lane) j1 (choices_other_some x at lane other (omega arith)) in
          let most : choices x at lane ≤ finished x at = choices_other x at lane other in
          let whole : reference_column x at lane j1 ≡ choice (choices x at lane) j1 =
          column_straight x at lane j1 (choice (choices x at lane) j1)
          (omega (arith, oldest_first x at first)) (omega arith) in
          let made : at.slice * x.width ≤ columns_made x at lane =
          elim (cases_lt lane at.lane) [
            | inl under ↦ omega (arith, made_before x at.pass at.slice at.lane at.index lane under)
            | inr over ↦ omega (arith, made_after x at.pass at.slice at.lane at.index lane (omega arith))
          ] in
          omega arith
    ]

-- ---- no other lane's segment of the slice

-- counted from the first column, a reference stays below what is finished
referred_below : (x : Shape) (at : Place) (lane j1 : ℕ) → lane ≢ at.lane → 2 ≤ finished x at → oldest x at ≡ 0
    → finished x at ≤ columns x
    → finished x at ≤ at.slice * x.width → reference_column x at lane j1 < at.slice * x.width
referred_below x at lane j1 other some begin inside below =
    let low : choice (choices x at lane) j1 < choices x at lane =
    choice_low (choices x at lane) j1 (choices_other_some x at lane other some) in
    let most : choices x at lane ≤ finished x at = choices_other x at lane other in
    let whole : reference_column x at lane j1 ≡ choice (choices x at lane) j1 =
    column_straight x at lane j1 (choice (choices x at lane) j1) (omega arith) (omega arith) in
    omega arith

-- counted from the next segment, it goes round the lane and stops before its own slice
referred_round : (x : Shape) (at : Place) (lane j1 : ℕ) → 2 ≤ x.width → IsWithin x at → at.pass ≢ 0
    → at.slice ≢ 3 → lane ≢ at.lane
    → (reference_column x at lane j1 < at.slice * x.width)
    ⊎ (at.slice * x.width + x.width ≤ reference_column x at lane j1)
referred_round x at lane j1 wide within later inner other =
    let done : finished x at ≡ 4 * x.width - x.width = finished_later x at later in
    let low : choice (choices x at lane) j1 < choices x at lane =
    choice_low (choices x at lane) j1 (choices_other_some x at lane other (omega arith)) in
    let most : choices x at lane ≤ finished x at = choices_other x at lane other in
    let c : ℕ = choice (choices x at lane) j1 in
    let begin : oldest x at ≡ at.slice * x.width + x.width = oldest_later x at later inner ∙ omega arith in
    elim (cases_lt (oldest x at + c) (columns x)) [
      | inl straight ↦
          let whole : reference_column x at lane j1 ≡ oldest x at + c =
          column_straight x at lane j1 (oldest x at + c) refl straight in
          inr (omega arith)
      | inr over ↦
          let rest : ℕ = oldest x at + c - columns x in
          let end : at.slice * x.width + x.width ≤ columns x = slice_end x at within.slice in
          let split : oldest x at + c ≡ rest + 1 * columns x = omega arith in
          let whole : reference_column x at lane j1 ≡ rest =
          column_round x at lane j1 rest split (omega arith) in
          inl (omega arith)
    ]

pub reference_apart : (x : Shape) (at : Place) (word : ℕ) → 2 ≤ x.width → IsWithin x at
    → reference_lane x at (word / 2 ^ 32) ≢ at.lane
    → (reference_column x at (reference_lane x at (word / 2 ^ 32)) (word % 2 ^ 32) < at.slice * x.width)
    ⊎ (at.slice * x.width + x.width ≤ reference_column x at (reference_lane x at (word / 2 ^ 32))
    (word % 2 ^ 32))
reference_apart x at word wide within other =
    elim (cases_eq at.pass 0) [
      | inl first ↦
          let started : at.slice ≡ 0 → ⊥ = λ zero. other (own_at_start x at (word / 2 ^ 32) first zero) in
          let past : x.width * 1 ≤ x.width * at.slice =
          mul-le-mul_left x.width (let one : 1 ≤ at.slice = omega arith in one) in
          let done : finished x at ≡ at.slice * x.width = finished_first x at first in
          inl (referred_below x at (reference_lane x at (word / 2 ^ 32)) (word % 2 ^ 32) other (omega arith)
          (oldest_first x at first)
          (omega (arith, slice_end x at within.slice)) (omega arith))
      | inr later ↦
          let done : finished x at ≡ 4 * x.width - x.width = finished_later x at later in
          elim (cases_eq at.slice 3) [
            | inl last ↦
                let three : at.slice * x.width ≡ 3 * x.width = ap (λ (s : ℕ). s * x.width) last in
                inl (referred_below x at (reference_lane x at (word / 2 ^ 32)) (word % 2 ^ 32) other
                (omega arith) (oldest_last x at last)
                (omega arith) (omega arith))
            | inr inner ↦ referred_round x at (reference_lane x at (word / 2 ^ 32))
                (word % 2 ^ 32) wide within later inner other
          ]
    ]
