-- Memory by slices: which slice a column is in, and a slice that is taken out and put back.
use Rattle.std.proofs.Common.{◌≡◌, ℕ, zero, suc, ◌+◌, ◌*◌, ◌/◌, ◌%◌, ◌<◌, ◌≤◌, ◌≢◌, ◌==◌, true, false, List}
use Rattle.std.proofs.Common.{[], length, slice_index_or, slice_set, inl, inr, refl, sym, ap, ◌∙◌, arith, length-set}
use Rattle.std.proofs.Common.{get_or-set_same, get_or-set_other, ◌∷◌, ◌++◌}
use Rattle.std.specs.Prelude.{All}
use Rattle.std.specs.declared.vec.Vec.{Vec}
use Rattle.std.specs.declared.alloc.Global.{Global}
use Rattle.std.proofs.lemmas.Bool.{cases_eq}
use Rattle.std.proofs.lemmas.Bool.Decides.{nat_tests}
use Rattle.std.proofs.lemmas.List.{get_or-map, length-append, length-map, map-append, map-set}
use Rattle.std.proofs.lemmas.Nat.{div-mul-add, mod-mul-add, div_below, le-div}
use Rattle.argon_kdf.specs.Blocks.{zero_block}
use Rattle.argon_kdf.specs.declared.layout.Place.{Place}
use Rattle.argon_kdf.specs.Shapes.{Shape, columns}
use Rattle.argon_kdf.specs.Slices.{HasSlice, HasSlices, IsSlice, IsWhole, IsWholeBut, segments_of, slices_of}
use Rattle.argon_kdf.specs.SeenBlocks.{IsOutside, block_at, seen_block}

-- ---- columns

pub slice_of : (g s k : ℕ) → k < g → (s * g + k) / g ≡ s
slice_of g s k low = div-mul-add s g k low

pub index_of : (g s k : ℕ) → k < g → (s * g + k) % g ≡ k
index_of g s k low = mod-mul-add s g k low

pub next_row : (s g : ℕ) → (s + 1) * g ≡ s * g + g
next_row s g = grind arith

-- a column outside a slice is another slice's
pub slice_outside : (x : Shape) (s z : ℕ) → 0 < x.width → IsOutside x s z → z / x.width ≢ s
slice_outside x s z some (inl under) e =
    absurd (omega (arith, div_below z x.width s some under))
slice_outside x s z some (inr over) e =
    let next : (s + 1) * x.width ≤ z = omega (arith, next_row s x.width) in
    absurd (omega (arith, le-div (s + 1) z x.width some next))

pub slice_low : (x : Shape) (z : ℕ) → 0 < x.width → z < columns x → z / x.width < 4
slice_low x z some inside = div_below z x.width 4 some inside

-- ---- blocks

pub block_in : (x : Shape) (m : List (List (List (List ℕ)))) (s l k : ℕ) → k < x.width
    → block_at x m l (s * x.width + k)
    ≡ slice_index_or (slice_index_or (slice_index_or m s []) l []) k zero_block
unfolding block_at
block_in x m s l k low = rw (slice_of x.width s k low, index_of x.width s k low) refl

pub block_is : (x : Shape) (m : List (List (List (List ℕ)))) (s l z : ℕ) → z / x.width ≡ s
    → block_at x m l z ≡ slice_index_or (slice_index_or (slice_index_or m s []) l []) (z % x.width) zero_block
unfolding block_at
block_is x m s l z is = rw is refl

pub block_same : (x : Shape) (m n : List (List (List (List ℕ)))) (l z : ℕ)
    → slice_index_or m (z / x.width) [] ≡ slice_index_or n (z / x.width) []
    → block_at x m l z ≡ block_at x n l z
unfolding block_at
block_same x m n l z same =
    ap (λ (slice : List (List (List ℕ))). slice_index_or (slice_index_or slice l []) (z % x.width) zero_block) same

-- ---- what is seen

pub seen_own : (x : Shape) (m : List (List (List (List ℕ)))) (seg : List (List ℕ)) (at : Place) (l z : ℕ)
    → z / x.width ≡ at.slice
    → seen_block x m seg at l z ≡ slice_index_or seg (z % x.width) zero_block
unfolding seen_block
seen_own x m seg at l z own =
    let test : (z / x.width == at.slice) ≡ true = grind (arith, nat_tests) in
    rw test refl

pub seen_other : (x : Shape) (m : List (List (List (List ℕ)))) (seg : List (List ℕ)) (at : Place) (l z : ℕ)
    → z / x.width ≢ at.slice
    → seen_block x m seg at l z ≡ block_at x m l z
unfolding seen_block
seen_other x m seg at l z other =
    let test : (z / x.width == at.slice) ≡ false = grind (arith, nat_tests) in
    rw test refl

-- ---- a slice is taken out, and one put in its place

pub slice_kept : (m : List (List (List (List ℕ)))) (s n : ℕ) (v : List (List (List ℕ))) → n ≢ s
    → slice_index_or (slice_set m s v) n [] ≡ slice_index_or m n []
slice_kept m s n v other = get_or-set_other m s n v [] other

pub taken_out : (x : Shape) (m : List (List (List (List ℕ)))) (s : ℕ) (v : List (List (List ℕ)))
    → IsWhole x m → IsWholeBut x s (slice_set m s v)
taken_out x m s v whole = record {
  count = length-set m s v ∙ whole.count;
  slices = λ n low other.
      rw (slice_kept m s n v other) (whole.slices n low);
}

pub put_back : (x : Shape) (m : List (List (List (List ℕ)))) (s : ℕ) (v : List (List (List ℕ)))
    → s < 4 → IsWholeBut x s m → IsSlice x v → IsWhole x (slice_set m s v)
put_back x m s v low but slice = record {
  count = length-set m s v ∙ but.count;
  slices = λ n inside.
      elim (cases_eq n s) [
        | inl here ↦ rw (here, get_or-set_same m s v [] (omega (arith, but.count))) slice
        | inr other ↦ rw (slice_kept m s n v other) (but.slices n inside other)
      ];
}

-- ---- the vectors

-- within a list the default does not matter
pub same_default : {A : Type 0} (xs : List A) (i : ℕ) (d e : A) → i < length xs
    → slice_index_or xs i d ≡ slice_index_or xs i e
same_default [] i d e low = absurd (omega arith)
same_default (x ∷ xs) zero d e low = refl
same_default (x ∷ xs) (suc i) d e low = let rest : i < length xs = omega arith in same_default xs i d e rest

-- the blocks of a vector
abbrev items_of : Vec (List ℕ) Global → List (List ℕ)
items_of v = v.items

-- the segments of a vector of vectors
abbrev parts_of : Vec (Vec (List ℕ) Global) Global → List (List (List ℕ))
parts_of v = segments_of v.items

pub segment_read : (segs : List (Vec (List ℕ) Global)) (l : ℕ) (d : Vec (List ℕ) Global) → l < length segs
    → slice_index_or (segments_of segs) l [] ≡ (slice_index_or segs l d).items
segment_read segs l d low = get_or-map items_of segs l d [] low

pub slice_read : (m : List (Vec (Vec (List ℕ) Global) Global)) (n : ℕ) (d : Vec (Vec (List ℕ) Global) Global)
    → n < length m
    → slice_index_or (slices_of m) n [] ≡ segments_of (slice_index_or m n d).items
slice_read m n d low = get_or-map parts_of m n d [] low

-- what holds of each vector's blocks holds of each segment
pub each_segment : (segs : List (Vec (List ℕ) Global)) (l : ℕ) (P : List (List ℕ) → Type 0) → l < length segs
    → ((d : Vec (List ℕ) Global) → P (slice_index_or segs l d).items)
    → P (slice_index_or (segments_of segs) l [])
each_segment [] l P low holds = absurd (omega arith)
each_segment (e ∷ rest) l P low holds = rw (segment_read (e ∷ rest) l e low) (holds e)

pub each_slice : (m : List (Vec (Vec (List ℕ) Global) Global)) (n : ℕ) (P : List (List (List ℕ)) → Type 0)
    → n < length m
    → ((d : Vec (Vec (List ℕ) Global) Global) → P (segments_of (slice_index_or m n d).items))
    → P (slice_index_or (slices_of m) n [])
each_slice [] n P low holds = absurd (omega arith)
each_slice (e ∷ rest) n P low holds = rw (slice_read (e ∷ rest) n e low) (holds e)

pub slice_lanes : (x : Shape) (segs : List (Vec (List ℕ) Global)) → IsSlice x (segments_of segs)
    → length segs ≡ x.lanes
slice_lanes x segs slice = sym (length-map segs items_of) ∙ slice.lanes

pub slice_parts : (x : Shape) (segs : List (Vec (List ℕ) Global)) → IsSlice x (segments_of segs)
    → All (λ v. length v.items ≡ x.width) segs
slice_parts x segs slice k d low =
    ap length (sym (segment_read segs k d low)) ∙ slice.widths k (omega (arith, slice_lanes x segs slice))

pub slice_from : (x : Shape) (segs : List (Vec (List ℕ) Global)) → length segs ≡ x.lanes
    → All (λ v. length v.items ≡ x.width) segs → IsSlice x (segments_of segs)
slice_from x segs lanes parts = record {
  lanes = length-map segs items_of ∙ lanes;
  widths = λ lane low.
      let inside : lane < length segs = omega arith in
      each_segment segs lane (λ t. length t ≡ x.width) inside (λ d. parts lane d inside);
}

pub memory_long : (x : Shape) (m : List (Vec (Vec (List ℕ) Global) Global)) (n : ℕ) → length (slices_of m) ≡ n
    → length m ≡ n
memory_long x m n long = sym (length-map m parts_of) ∙ long

pub slices_set : (m : List (Vec (Vec (List ℕ) Global) Global)) (s : ℕ) (e : Vec (Vec (List ℕ) Global) Global)
    → slices_of (slice_set m s e) ≡ slice_set (slices_of m) s (segments_of e.items)
slices_set m s e = map-set parts_of m s e

pub segments_set : (segs : List (Vec (List ℕ) Global)) (l : ℕ) (e : Vec (List ℕ) Global)
    → segments_of (slice_set segs l e) ≡ slice_set (segments_of segs) l e.items
segments_set segs l e = map-set items_of segs l e

pub slices_append : (m : List (Vec (Vec (List ℕ) Global) Global)) (e : Vec (Vec (List ℕ) Global) Global)
    → slices_of (m ++ e ∷ []) ≡ slices_of m ++ segments_of e.items ∷ []
slices_append m e = map-append parts_of m (e ∷ [])

-- ---- memory that grows

-- past the end of a list a read gives the default
pub read_past : {A : Type 0} (xs : List A) (n : ℕ) (d : A) → length xs ≤ n → slice_index_or xs n d ≡ d
read_past [] n d low = refl
read_past (x ∷ xs) zero d low = absurd (omega arith)
read_past (x ∷ xs) (suc n) d low = let rest : length xs ≤ n = omega arith in read_past xs n d rest

pub appended_here : {A : Type 0} (xs : List A) (v d : A) (n : ℕ) → length xs ≡ n
    → slice_index_or (xs ++ v ∷ []) n d ≡ v
appended_here [] v d zero long = refl
appended_here [] v d (suc n) long = absurd (omega arith)
appended_here (x ∷ xs) v d zero long = absurd (omega arith)
appended_here (x ∷ xs) v d (suc n) long = let rest : length xs ≡ n = omega arith in appended_here xs v d n rest

pub appended_other : {A : Type 0} (xs : List A) (v d : A) (n : ℕ) → n ≢ length xs
    → slice_index_or (xs ++ v ∷ []) n d ≡ slice_index_or xs n d
appended_other [] v d zero other = absurd (other refl)
appended_other [] v d (suc n) other = refl
appended_other (x ∷ xs) v d zero other = refl
appended_other (x ∷ xs) v d (suc n) other =
    let rest : n ≢ length xs = λ e. other (omega (arith, e)) in appended_other xs v d n rest

-- no slice
pub block_none : (x : Shape) (l z : ℕ) → block_at x [] l z ≡ zero_block
unfolding block_at
block_none x l z = refl

-- a slice more
pub slices_more : (x : Shape) (m : List (List (List (List ℕ)))) (s : ℕ) (v : List (List (List ℕ)))
    → HasSlices x s m → IsSlice x v → HasSlices x (s + 1) (m ++ v ∷ [])
slices_more x m s v has slice = record {
  count = length-append m (v ∷ []) ∙ omega (arith, has.count);
  slices = λ n low.
      elim (cases_eq n s) [
        | inl here ↦ rw (here, appended_here m v [] s has.count) slice
        | inr other ↦ rw (appended_other m v [] n (λ e. other (e ∙ has.count))) (has.slices n (omega arith))
      ];
}

-- ---- what there is to read

pub has_slice : (x : Shape) (m : List (List (List (List ℕ)))) (s n : ℕ) → HasSlices x s m → n < s
    → HasSlice x m n
has_slice x m s n has low = record { within = omega (arith, has.count); slice = has.slices n low }

pub has_but : (x : Shape) (m : List (List (List (List ℕ)))) (s n : ℕ) → IsWholeBut x s m → n < 4 → n ≢ s
    → HasSlice x m n
has_but x m s n but low other = record { within = omega (arith, but.count); slice = but.slices n low other }
