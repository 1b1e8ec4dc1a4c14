-- How the memory represents the table from one place to the next.
use Rattle.std.proofs.Common.{◌≡◌, ℕ, ◌+◌, ◌-◌, ◌*◌, ◌<◌, ◌≤◌, ◌≢◌, List, [], length, slice_index_or}
use Rattle.std.proofs.Common.{slice_set, inl, inr, refl, sym, ap, ◌∙◌, arith, length-set, get_or-set_same}
use Rattle.std.proofs.Common.{get_or-set_other}
use Rattle.std.proofs.Math.Nat.{mul-le-mul_left}
use Rattle.std.proofs.lemmas.Bool.{cases_lt, cases_eq}
use Rattle.std.proofs.lemmas.Bool.Decides.{nat_tests}
use Rattle.argon_kdf.specs.Blocks.{zero_block}
use Rattle.argon_kdf.specs.Shapes.{Shape, columns, block_count, place}
use Rattle.argon_kdf.specs.Tables.{Table, empty_table, put, columns_made, latest}
use Rattle.argon_kdf.specs.Memory.{Shows, IsFilledTo}
use Rattle.argon_kdf.specs.declared.layout.Place.{Place}

-- ---- how many columns are made

pub made_before : (x : Shape) (w s i k l : ℕ) → l < i
    → columns_made x (place w s i k) l ≡ s * x.width + x.width
unfolding columns_made
made_before x w s i k l low = grind (arith, nat_tests)

pub made_here : (x : Shape) (w s i k : ℕ) → columns_made x (place w s i k) i ≡ s * x.width + k
unfolding columns_made
made_here x w s i k = grind (arith, nat_tests)

pub made_after : (x : Shape) (w s i k l : ℕ) → i < l → columns_made x (place w s i k) l ≡ s * x.width
unfolding columns_made
made_after x w s i k l high = grind (arith, nat_tests)

-- ---- a block put into the table

pub put_same : (b : Table) (w i j : ℕ) (new : List ℕ) → put b w i j new w i j ≡ new
unfolding put
put_same b w i j new = grind (arith, nat_tests)

pub put_pass : (b : Table) (w i j : ℕ) (new : List ℕ) (w2 l z : ℕ) → w2 ≢ w
    → put b w i j new w2 l z ≡ b w2 l z
unfolding put
put_pass b w i j new w2 l z other = grind (arith, nat_tests)

pub put_lane : (b : Table) (w i j : ℕ) (new : List ℕ) (w2 l z : ℕ) → l ≢ i → put b w i j new w2 l z ≡ b w2 l z
unfolding put
put_lane b w i j new w2 l z other = grind (arith, nat_tests)

pub put_column : (b : Table) (w i j : ℕ) (new : List ℕ) (w2 l z : ℕ) → z ≢ j
    → put b w i j new w2 l z ≡ b w2 l z
unfolding put
put_column b w i j new w2 l z other = grind (arith, nat_tests)

-- ---- the latest block

pub latest_made : (x : Shape) (b : Table) (at : Place) (l z : ℕ) → z < columns_made x at l
    → latest x b at l z ≡ b at.pass l z
unfolding latest
latest_made x b at l z low = grind (arith, nat_tests)

pub latest_old : (x : Shape) (b : Table) (at : Place) (l z : ℕ) → columns_made x at l ≤ z
    → latest x b at l z ≡ b (at.pass - 1) l z
unfolding latest
latest_old x b at l z high = grind (arith, nat_tests)

-- a block put at a place is the latest there once the filling has gone on
pub latest_put_here : (x : Shape) (b : Table) (w s i k : ℕ) (new : List ℕ)
    → latest x (put b w i (s * x.width + k) new) (place w s i (k + 1)) i (s * x.width + k) ≡ new
latest_put_here x b w s i k new =
    let here : columns_made x (place w s i (k + 1)) i ≡ s * x.width + (k + 1) = made_here x w s i (k + 1) in
    latest_made x (put b w i (s * x.width + k) new) (place w s i (k + 1)) i (s * x.width + k) (omega arith)
    ∙ put_same b w i (s * x.width + k) new

-- a column that is made in this pass, or not, is so before and after
pub latest_same : (x : Shape) (b c : Table) (at to : Place) (l z : ℕ) → at.pass ≡ to.pass
    → columns_made x at l ≡ columns_made x to l
    → b at.pass l z ≡ c at.pass l z → b (at.pass - 1) l z ≡ c (at.pass - 1) l z
    → latest x b at l z ≡ latest x c to l z
unfolding latest
latest_same x b c at to l z pass made now before = rw (made, now, before, pass) refl

pub latest_put_lane : (x : Shape) (b : Table) (w s i k : ℕ) (new : List ℕ) (l z : ℕ) → l ≢ i
    → latest x b (place w s i k) l z ≡ latest x (put b w i (s * x.width + k) new) (place w s i (k + 1)) l z
latest_put_lane x b w s i k new l z other =
    let made : columns_made x (place w s i k) l ≡ columns_made x (place w s i (k + 1)) l =
    elim (cases_lt l i) [
      | inl low ↦ made_before x w s i k l low ∙ sym (made_before x w s i (k + 1) l low)
      | inr high ↦ made_after x w s i k l (omega arith) ∙ sym (made_after x w s i (k + 1) l (omega arith))
    ] in
    latest_same x b (put b w i (s * x.width + k) new) (place w s i k) (place w s i (k + 1)) l z refl made
    (sym (put_lane b w i (s * x.width + k) new w l z other))
    (sym (put_lane b w i (s * x.width + k) new (w - 1) l z other))

pub latest_put_column : (x : Shape) (b : Table) (w s i k : ℕ) (new : List ℕ) (z : ℕ) → z ≢ s * x.width + k
    → latest x b (place w s i k) i z ≡ latest x (put b w i (s * x.width + k) new) (place w s i (k + 1)) i z
latest_put_column x b w s i k new z other =
    let c : Table = put b w i (s * x.width + k) new in
    let before : columns_made x (place w s i k) i ≡ s * x.width + k = made_here x w s i k in
    let after : columns_made x (place w s i (k + 1)) i ≡ s * x.width + (k + 1) = made_here x w s i (k + 1) in
    elim (cases_lt z (s * x.width + k)) [
      | inl low ↦
          latest_made x b (place w s i k) i z (omega arith)
          ∙ sym (put_column b w i (s * x.width + k) new w i z other)
          ∙ sym (latest_made x c (place w s i (k + 1)) i z (omega arith))
      | inr high ↦
          latest_old x b (place w s i k) i z (omega arith)
          ∙ sym (put_column b w i (s * x.width + k) new (w - 1) i z other)
          ∙ sym (latest_old x c (place w s i (k + 1)) i z (omega arith))
    ]

-- ---- the memory

-- two columns of the lanes have different offsets
pub other_lane : (n l i z j : ℕ) → z < n → j < n → l ≢ i → l * n + z ≢ i * n + j
other_lane n l i z j low high other e =
    elim (cases_lt l i) [
      | inl under ↦ absurd (omega (arith, mul-le-mul_left n (let next : l + 1 ≤ i = omega arith in next)))
      | inr over ↦ absurd (omega (arith, mul-le-mul_left n (let next : i + 1 ≤ l = omega arith in next)))
    ]

-- a block is written
pub Stands_put : (x : Shape) (memory : List (List ℕ)) (b : Table) (w s i k at : ℕ) (new : List ℕ)
    → i < x.lanes → s * x.width + k < columns x
    → at ≡ i * columns x + (s * x.width + k) → at < block_count x → IsFilledTo x memory b (place w s i k)
    → IsFilledTo x (slice_set memory at new) (put b w i (s * x.width + k) new) (place w s i (k + 1))
Stands_put x memory b w s i k at new lane column offset within st = record {
  whole = length-set memory at new ∙ st.whole;
  shows = λ l z low inside.
      elim (cases_eq l i) [
        | inl same ↦
            elim (cases_eq z (s * x.width + k)) [
              | inl here ↦
                  rw (same, here, ← offset)
                  (get_or-set_same memory at new [] (omega (arith, st.whole))
                  ∙ sym (latest_put_here x b w s i k new))
              | inr other ↦
                  rw same
                  (get_or-set_other memory at (i * columns x + z) new [] (omega arith)
                  ∙ st.shows i z lane inside ∙ latest_put_column x b w s i k new z other)
            ]
        | inr other ↦
            get_or-set_other memory at (l * columns x + z) new []
            (λ e. other_lane (columns x) l i z (s * x.width + k) inside column other (e ∙ offset))
            ∙ st.shows l z low inside ∙ latest_put_lane x b w s i k new l z other
      ];
}

-- the filling goes on to a place where it has made as many columns
Stands_same : (x : Shape) (memory : List (List ℕ)) (b : Table) (at to : Place) → at.pass ≡ to.pass
    → ((l : ℕ) → l < x.lanes → columns_made x at l ≡ columns_made x to l) → IsFilledTo x memory b at
    → IsFilledTo x memory b to
Stands_same x memory b at to pass made st = record {
  whole = st.whole;
  shows = λ l z low inside. st.shows l z low inside ∙ latest_same x b b at to l z pass (made l low) refl refl;
}

-- from the end of a segment to the next lane
pub Stands_lane : (x : Shape) (memory : List (List ℕ)) (b : Table) (w s i : ℕ)
    → IsFilledTo x memory b (place w s i x.width)
    → IsFilledTo x memory b (place w s (i + 1) 0)
Stands_lane x memory b w s i =
    Stands_same x memory b (place w s i x.width) (place w s (i + 1) 0) refl (λ l low.
    elim (cases_lt l i) [
      | inl under ↦ made_before x w s i x.width l under ∙ sym (made_before x w s (i + 1) 0 l (omega arith))
      | inr over ↦
          elim (cases_eq l i) [
            | inl same ↦ rw same (made_here x w s i x.width
                ∙ sym (made_before x w s (i + 1) 0 i (omega arith)))
            | inr other ↦
                made_after x w s i x.width l (omega arith)
                ∙ elim (cases_eq l (i + 1)) [
                  | inl next ↦ rw next (omega (arith, made_here x w s (i + 1) 0))
                  | inr later ↦ sym (made_after x w s (i + 1) 0 l (omega arith))
                ]
          ]
    ])

-- from the end of a slice to the next
pub Stands_slice : (x : Shape) (memory : List (List ℕ)) (b : Table) (w s : ℕ)
    → IsFilledTo x memory b (place w s x.lanes 0)
    → IsFilledTo x memory b (place w (s + 1) 0 0)
Stands_slice x memory b w s =
    Stands_same x memory b (place w s x.lanes 0) (place w (s + 1) 0 0) refl (λ l low.
    made_before x w s x.lanes 0 l low
    ∙ elim (cases_eq l 0) [
      | inl first ↦ rw first (omega (arith, made_here x w (s + 1) 0 0))
      | inr later ↦ omega (arith, made_after x w (s + 1) 0 0 l (omega arith))
    ])

-- all is made at the end of a pass, and nothing at its start
all_made : (x : Shape) (w l z : ℕ) → z < columns x → z < columns_made x (place w 4 0 0) l
all_made x w l z inside =
    elim (cases_eq l 0) [
      | inl first ↦ rw first (omega (arith, made_here x w 4 0 0))
      | inr later ↦ omega (arith, made_after x w 4 0 0 l (omega arith))
    ]

none_made : (x : Shape) (w l z : ℕ) → columns_made x (place w 0 0 0) l ≤ z
none_made x w l z =
    elim (cases_eq l 0) [
      | inl first ↦ rw first (omega (arith, made_here x w 0 0 0))
      | inr later ↦ omega (arith, made_after x w 0 0 0 l (omega arith))
    ]

-- from the end of a pass to the next
pub Shows_pass : (x : Shape) (now : ℕ → ℕ → List ℕ) (b : Table) (w : ℕ) → Shows x now b (place w 4 0 0)
    → Shows x now b (place (w + 1) 0 0 0)
Shows_pass x now b w st = record {
  shows = λ l z low inside.
      st.shows l z low inside ∙ latest_made x b (place w 4 0 0) l z (all_made x w l z inside)
      ∙ ap (λ (pass : ℕ). b pass l z) (let back : w ≡ w + 1 - 1 = omega arith in back)
      ∙ sym (latest_old x b (place (w + 1) 0 0 0) l z (none_made x (w + 1) l z));
}

pub Stands_pass : (x : Shape) (memory : List (List ℕ)) (b : Table) (w : ℕ) → IsFilledTo x memory b (place w 4 0 0)
    → IsFilledTo x memory b (place (w + 1) 0 0 0)
Stands_pass x memory b w st = record {
  whole = st.whole;
  shows = (Shows_pass x (λ l z. slice_index_or memory (l * columns x + z) []) b w
      (record { shows = st.shows })).shows;
}

-- memory full of zeros represents the empty table
pub Shows_start : (x : Shape) (now : ℕ → ℕ → List ℕ)
    → ((l z : ℕ) → l < x.lanes → z < columns x → now l z ≡ zero_block)
    → Shows x now empty_table (place 0 0 0 0)
Shows_start x now zeros = record {
  shows = λ l z low inside.
      zeros l z low inside ∙ sym (latest_old x empty_table (place 0 0 0 0) l z (none_made x 0 l z));
}

pub Stands_start : (x : Shape) (memory : List (List ℕ)) → length memory ≡ block_count x
    → ((n : ℕ) → n < block_count x → slice_index_or memory n [] ≡ zero_block)
    → IsFilledTo x memory empty_table (place 0 0 0 0)
Stands_start x memory whole zeros = record {
  whole = whole;
  shows = (Shows_start x (λ l z. slice_index_or memory (l * columns x + z) []) (λ l z low inside.
      zeros (l * columns x + z) (omega (
        arith,
        mul-le-mul_left (columns x)
            (let next : l + 1 ≤ x.lanes = omega arith in next),
      )))).shows;
}

-- what memory has at the end of a pass
pub Shows_read : (x : Shape) (now : ℕ → ℕ → List ℕ) (b : Table) (t l z : ℕ) → l < x.lanes → z < columns x
    → Shows x now b (place t 0 0 0) → now l z ≡ b (t - 1) l z
Shows_read x now b t l z low inside st =
    st.shows l z low inside ∙ latest_old x b (place t 0 0 0) l z (none_made x t l z)

pub Stands_read : (x : Shape) (memory : List (List ℕ)) (b : Table) (t l z : ℕ) → l < x.lanes → z < columns x
    → IsFilledTo x memory b (place t 0 0 0) → slice_index_or memory (l * columns x + z) [] ≡ b (t - 1) l z
Stands_read x memory b t l z low inside st =
    st.shows l z low inside ∙ latest_old x b (place t 0 0 0) l z (none_made x t l z)
