-- What is known of the blocks of CBC.
use Rattle.std.proofs.Common.{◌≡◌, ℕ, zero, suc, ◌+◌, ◌*◌, ◌-◌, ◌≤◌, ◌<◌, List, length, take, drop, refl, ap, sym, ◌∙◌, arith, add-one}
use Rattle.std.proofs.lemmas.List.{drop-take, take-take}
use Rattle.byte_words.specs.Xor.{xor_bytes}
use Rattle.byte_words.specs.Blocks.{block_at}
use Rattle.byte_words.proofs.BlockLemmas.{length-block_at}
use Rattle.byte_words.proofs.XorLemmas.{length-xor_bytes}
use Rattle.cts_mode.specs.Cbc.{cbc_block, block_before, plain_block}

-- the next block of CBC
pub cbc_block_next : (encrypt : List ℕ → List ℕ) (iv text : List ℕ) (j : ℕ) → cbc_block encrypt iv text (j + 1) ≡ encrypt (xor_bytes (block_at 16 text j) (cbc_block encrypt iv text j))
unfolding cbc_block
cbc_block_next encrypt iv text j = rw add-one refl

pub cbc_block_suc : (encrypt : List ℕ → List ℕ) (iv text : List ℕ) (j : ℕ) → cbc_block encrypt iv text (suc j) ≡ encrypt (xor_bytes (block_at 16 text j) (cbc_block encrypt iv text j))
unfolding cbc_block
cbc_block_suc encrypt iv text j = refl

-- blocks of CBC depend on the blocks up to them alone
pub cbc_block_same : (encrypt : List ℕ → List ℕ) (iv xs ys : List ℕ) (n : ℕ) → ((j : ℕ) → j < n → block_at 16 xs j ≡ block_at 16 ys j) → cbc_block encrypt iv xs n ≡ cbc_block encrypt iv ys n
unfolding cbc_block
cbc_block_same encrypt iv xs ys zero same = refl
cbc_block_same encrypt iv xs ys (suc n) same =
    (λ i. encrypt (xor_bytes (same n (omega arith) i) (cbc_block_same encrypt iv xs ys n (λ j low. same j (omega arith)) i)))

-- a block in the front of a list is a block of the front
pub block_at_front : (xs : List ℕ) (at j : ℕ) → 16 * j + 16 ≤ at → block_at 16 (take at xs) j ≡ block_at 16 xs j
unfolding block_at
block_at_front xs at j within =
    let rest : at ≡ 16 * j + (at - 16 * j) = omega arith in
    ap (λ n. take 16 (drop (16 * j) (take n xs))) rest
    ∙ ap (take 16) (drop-take (16 * j) (at - 16 * j) xs)
    ∙ take-take 16 (at - 16 * j) (drop (16 * j) xs) (omega arith)

pub length-cbc_block : (encrypt : List ℕ → List ℕ) (iv text : List ℕ) → ((block : List ℕ) → length (encrypt block) ≡ 16) → (j : ℕ) → length (cbc_block encrypt iv text (suc j)) ≡ 16
unfolding cbc_block
length-cbc_block encrypt iv text sizes j = sizes _

pub length-block_before : (iv text : List ℕ) (j n : ℕ) → length iv ≡ 16 → j ≤ n → 16 * n ≤ length text → length (block_before iv text j) ≡ 16
length-block_before iv text zero n whole low within = whole
length-block_before iv text (suc j) n whole low within = length-block_at 16 text j (omega arith)

pub length-plain_block : (decrypt : List ℕ → List ℕ) (iv text : List ℕ) → ((block : List ℕ) → length (decrypt block) ≡ 16) → (j n : ℕ) → length iv ≡ 16 → j ≤ n → 16 * n ≤ length text → length (plain_block decrypt iv text j) ≡ 16
unfolding plain_block
length-plain_block decrypt iv text sizes j n whole low within =
    length-xor_bytes (decrypt (block_at 16 text j)) (block_before iv text j) (sizes (block_at 16 text j) ∙ sym (length-block_before iv text j n whole low within))
    ∙ sizes (block_at 16 text j)
