-- The contents of a file are read block by block, and the last block is cut.
use Rattle.std.proofs.Common.{◌≡◌, ℕ, suc, inl, inr, ◌<◌, ◌+◌, ◌-◌, ◌*◌, List, [], ◌∷◌, ◌++◌, length, take, drop, get_or, min, Option, refl, sym, ap, ◌∙◌, arith, length-append}
use Rattle.std.specs.Int.{div_ceil}
use Rattle.std.proofs.lemmas.Bool.{cases_lt}
use Rattle.std.proofs.lemmas.List.{length-drop, drop_all, take_all}
use Rattle.std.proofs.lemmas.Grind.{div_ceil_times}
use Rattle.std.proofs.Math.Seq.{drop-cons, take-append-add}
use Rattle.byte_words.specs.Blocks.{first_blocks}
use Rattle.byte_words.proofs.BlockLemmas.{first_blocks_more}
use Rattle.data_crypt.specs.Blocks.{Seal, read_block, read_contents}

-- block j, as it is read
abbrev pub block_read : Option Seal → List (List ℕ) → ℕ → List ℕ
block_read seal blocks j = read_block seal j (get_or blocks j [])

pub contents_are : (seal : Option Seal) (size : ℕ) (blocks : List (List ℕ)) → read_contents seal size blocks ≡ take size (first_blocks (block_read seal blocks) (length blocks))
unfolding read_contents
contents_are seal size blocks = refl

-- a file has more bytes than are before each of its blocks
pub begins_within : (size j : ℕ) → j < div_ceil size 4096 → 4096 * j < size
begins_within size j lt =
    let bounds = div_ceil_times size 4096 (omega arith) in
    omega (arith, bounds, lt)

pub no_blocks : (f : ℕ → List ℕ) → first_blocks f 0 ≡ []
unfolding first_blocks
no_blocks f = refl

pub none_taken : (n : ℕ) → take n (let none : List ℕ = [] in none) ≡ []
none_taken n = take_all n [] (omega arith)

cut_off : (n : ℕ) (block : List ℕ) → length block ≡ 4096 → take n block ≡ take (min n 4096) block
cut_off n block whole = elim (cases_lt 4096 n) [
  | inl more ↦ take_all n block (omega arith) ∙ sym (take_all (min n 4096) block (omega arith))
  | inr few ↦ ap (λ k. take k block) (let e : n ≡ min n 4096 = omega arith in e)
]

-- the first blocks, cut, and one more
pub one_block_more : (f : ℕ → List ℕ) (size j : ℕ) (block : List ℕ) → f j ≡ block → length block ≡ 4096 → length (first_blocks f j) ≡ 4096 * j → 4096 * j < size
    → take size (first_blocks f (j + 1)) ≡ take size (first_blocks f j) ++ take (min (size - 4096 * j) 4096) block
one_block_more f size j block is whole sized less =
    let front = first_blocks f j in
    let rest = size - 4096 * j in
    let count : size ≡ length front + rest = omega (arith, sized, less) in
    ap (take size) (first_blocks_more f j ∙ ap (λ b. front ++ b) is)
    ∙ ap (λ n. take n (front ++ block)) count ∙ take-append-add front block rest
    ∙ (λ i. sym (take_all size front (omega (arith, sized, less))) i ++ cut_off rest block whole i)

pub sized_more : (f : ℕ → List ℕ) (j : ℕ) (block : List ℕ) → f j ≡ block → length block ≡ 4096 → length (first_blocks f j) ≡ 4096 * j → length (first_blocks f (j + 1)) ≡ 4096 * (j + 1)
sized_more f j block is whole sized =
    let more = ap length (first_blocks_more f j) ∙ length-append (first_blocks f j) (f j) in
    let last = ap length is in
    omega (arith, more, last)

-- of the blocks from j on, the first is block j
pub first_is : (blocks : List (List ℕ)) (j : ℕ) (block : List ℕ) (more : List (List ℕ)) → drop j blocks ≡ block ∷ more → (get_or blocks j [] ≡ block) × (drop (j + 1) blocks ≡ more)
first_is blocks j block more cut = elim (cases_lt j (length blocks)) [
  | inl lt ↦
      let parts = drop-cons blocks j [] lt in
      let next : drop (suc j) blocks ≡ drop (j + 1) blocks = ap (λ n. drop n blocks) (let e : suc j ≡ j + 1 = omega arith in e) in
      (cc, cc)
  | inr past ↦
      let none : drop j blocks ≡ [] = drop_all j blocks past in
      absurd (cc)
]

-- if block j is one, some are left
pub some_left : (blocks : List (List ℕ)) (j : ℕ) → j < length blocks → drop j blocks ≡ [] → ⊥
some_left blocks j lt none =
    let long = length-drop j blocks in
    let nothing = ap length none in
    absurd (omega (arith, long, nothing, lt))
