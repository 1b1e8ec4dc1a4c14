-- What a segment in the making reads is there: in the first pass it is before the segment's next block.
use Rattle.std.proofs.Common.{◌≡◌, ℕ, ◌+◌, ◌*◌, ◌/◌, ◌%◌, ◌^◌, ◌<◌, ◌≤◌, ◌≢◌, List, length, inl, inr, refl, sym}
use Rattle.std.proofs.Common.{ap, ◌∙◌, arith}
use Rattle.std.proofs.lemmas.Bool.{cases_eq}
use Rattle.std.proofs.lemmas.Bool.Decides.{nat_tests}
use Rattle.std.proofs.lemmas.Nat.{div-add-mod', div_below, mod_below}
use Rattle.argon_kdf.specs.declared.layout.Place.{Place}
use Rattle.argon_kdf.specs.Shapes.{Shape, IsWithin, place, columns, column_of, column_before}
use Rattle.argon_kdf.specs.References.{reference_lane, reference_column}
use Rattle.argon_kdf.specs.Tables.{columns_made}
use Rattle.argon_kdf.specs.Slices.{HasSlice, HasSlices, IsWholeBut}
use Rattle.argon_kdf.specs.Segments.{IsReadable}
use Rattle.argon_kdf.proofs.Referring.{reference_apart, reference_made}
use Rattle.argon_kdf.proofs.SegmentLemmas.{other_made}
use Rattle.argon_kdf.proofs.SliceLemmas.{has_but, has_slice, next_row, slice_low}
use Rattle.argon_kdf.proofs.Standing.{made_here}

-- ---- columns that are there

pub own_there : (x : Shape) (m : List (List (List (List ℕ)))) (seg : List (List ℕ)) (at : Place) (z : ℕ)
    → 0 < x.width → IsReadable x m seg at → (at.pass ≡ 0 → z < column_of x at) → z / x.width ≡ at.slice
    → z % x.width < length seg
own_there x m seg at z some readable before here =
    let split : at.slice * x.width + z % x.width ≡ z =
    ap (λ (n : ℕ). n * x.width + z % x.width) (sym here) ∙ div-add-mod' z x.width in
    readable.own (z % x.width) (mod_below z x.width some) (λ first. omega (arith, before first))

pub other_there : (x : Shape) (m : List (List (List (List ℕ)))) (seg : List (List ℕ)) (at : Place) (z : ℕ)
    → 0 < x.width → IsWithin x at → IsReadable x m seg at → z < columns x
    → (at.pass ≡ 0 → z < column_of x at) → z / x.width ≢ at.slice → HasSlice x m (z / x.width)
other_there x m seg at z some within readable inside before other =
    readable.others (z / x.width) (slice_low x z some inside) other (λ first.
    let low : z < (at.slice + 1) * x.width =
    omega (arith, before first, within.index, next_row at.slice x.width) in
    omega (arith, div_below z x.width (at.slice + 1) some low))

-- ---- the first pass reads what is before

pub before_low : (x : Shape) (at : Place) (column : ℕ) → 2 ≤ column_of x at → column ≡ column_before x at
    → column < column_of x at
before_low x at column begun is = grind (arith, nat_tests)

pub referred_low : (x : Shape) (at : Place) (word lane column : ℕ) → 2 ≤ x.width → IsWithin x at → at.pass ≡ 0
    → 2 ≤ column_of x at → lane ≡ reference_lane x at (word / 2 ^ 32)
    → column ≡ reference_column x at lane (word % 2 ^ 32) → column < column_of x at
referred_low x at word lane column wide within first begun lane_is column_is =
    let to : ℕ = reference_lane x at (word / 2 ^ 32) in
    let whole : column ≡ reference_column x at to (word % 2 ^ 32) =
    column_is ∙ ap (λ (l : ℕ). reference_column x at l (word % 2 ^ 32)) lane_is in
    let made : reference_column x at to (word % 2 ^ 32) < columns_made x at to =
    reference_made x at word wide within first begun in
    elim (cases_eq to at.lane) [
      | inl own ↦
          let here : columns_made x at to ≡ at.slice * x.width + at.index =
          rw own (made_here x at.pass at.slice at.lane at.index) in
          omega arith
      | inr other ↦
          let most = other_made x at.pass at.slice at.lane at.index to other in
          elim (reference_apart x at word wide within other) [
            | inl under ↦ omega arith
            | inr over ↦ absurd (omega (arith, most.1))
          ]
    ]

-- ---- when all is there

pub readable_first : (x : Shape) (m : List (List (List (List ℕ)))) (seg : List (List ℕ)) (s i k : ℕ)
    → HasSlices x s m → length seg ≡ k → IsReadable x m seg (place 0 s i k)
readable_first x m seg s i k has long = record {
  others = λ n low other before. has_slice x m s n has (before refl);
  own = λ j low before. omega (arith, before refl);
}

pub readable_later : (x : Shape) (m : List (List (List (List ℕ)))) (seg : List (List ℕ)) (w s i k : ℕ)
    → IsWholeBut x s m → length seg ≡ x.width → IsReadable x m seg (place w s i k)
readable_later x m seg w s i k but long = record {
  others = λ n low other before. has_but x m s n but low other;
  own = λ j low before. omega arith;
}
