-- Eight blocks as a square of bits, and back.
use Rattle.std.proofs.Common.{◌≡◌, ℕ, zero, suc, ◌%◌, ◌<◌, List, [], ◌∷◌, map, length, get_or, refl, ap, sym, ◌∙◌, arith}
use Rattle.std.proofs.lemmas.Nat.{mod_below}
use Rattle.std.proofs.lemmas.Nat.Bits.{bit_at-lt}
use Rattle.std.proofs.lemmas.List.FromFn.{fill_by_all, get_or-map-range_with_len}
use Rattle.std.specs.Prelude.{slice_index}
use Rattle.std.specs.Int.{bit_at}
use Rattle.std.specs.List.{range_with_len}
use Rattle.byte_words.specs.Tables.{all_from}
use Rattle.aes_core.specs.Laws.{IsBlock}
use Rattle.aes_core.specs.Planes.{packed, vector_of, square_of, plane, planes, AllBits, AllBlocks}
use Rattle.aes_core.proofs.ByteTables.{byte_equal}

pub of_eight : (P : ℕ → Type 0) → P 0 → P 1 → P 2 → P 3 → P 4 → P 5 → P 6 → P 7 → (k : ℕ) → k < 8 → P k
of_eight P p0 p1 p2 p3 p4 p5 p6 p7 zero low = p0
of_eight P p0 p1 p2 p3 p4 p5 p6 p7 (suc zero) low = p1
of_eight P p0 p1 p2 p3 p4 p5 p6 p7 (suc (suc zero)) low = p2
of_eight P p0 p1 p2 p3 p4 p5 p6 p7 (suc (suc (suc zero))) low = p3
of_eight P p0 p1 p2 p3 p4 p5 p6 p7 (suc (suc (suc (suc zero)))) low = p4
of_eight P p0 p1 p2 p3 p4 p5 p6 p7 (suc (suc (suc (suc (suc zero))))) low = p5
of_eight P p0 p1 p2 p3 p4 p5 p6 p7 (suc (suc (suc (suc (suc (suc zero)))))) low = p6
of_eight P p0 p1 p2 p3 p4 p5 p6 p7 (suc (suc (suc (suc (suc (suc (suc zero))))))) low = p7
of_eight P p0 p1 p2 p3 p4 p5 p6 p7 (suc (suc (suc (suc (suc (suc (suc (suc k)))))))) low = absurd (omega arith)

-- a byte is made of its bits
own_bits : (x : ℕ) → x < 256 → x ≡ packed 8 (λ k. bit_at x k)
unfolding all_from packed
own_bits = byte_equal _ _ refl

-- so is a block
pub block_is : (v : List ℕ) → IsBlock v → v ≡ vector_of (λ k p. bit_at (slice_index v p) k)
unfolding vector_of
block_is v block =
    fill_by_all (λ p. get_or v p 0) v 16 0 block.size (λ k low. refl) ∙ (λ i. map (λ p. own_bits (get_or v p 0) (block.bytes p) i) (range_with_len 0 16))

-- eight blocks are the square of their bits
pub blocks_are : (xs : List (List ℕ)) → length xs ≡ 8 → ((r : ℕ) → r < 8 → IsBlock (get_or xs r [])) → xs ≡ square_of (λ r k p. bit_at (slice_index (get_or xs (r % 8) []) p) k)
unfolding square_of
blocks_are xs size blocks =
    fill_by_all (λ r. get_or xs r []) xs 8 [] size (λ k low. refl)
    ∙ (λ i. block_is (get_or xs 0 []) (blocks 0 (omega arith)) i ∷ block_is (get_or xs 1 []) (blocks 1 (omega arith)) i ∷ block_is (get_or xs 2 []) (blocks 2 (omega arith)) i ∷ block_is (get_or xs 3 []) (blocks 3 (omega arith)) i ∷
    block_is (get_or xs 4 []) (blocks 4 (omega arith)) i ∷ block_is (get_or xs 5 []) (blocks 5 (omega arith)) i ∷ block_is (get_or xs 6 []) (blocks 6 (omega arith)) i ∷ block_is (get_or xs 7 []) (blocks 7 (omega arith)) i ∷ [])

-- planes are the square with rows and columns changed
pub planes_are : (s : ℕ → List ℕ) → planes s ≡ square_of (λ k b p. bit_at (slice_index (s b) p) k)
unfolding planes plane square_of
planes_are s = refl

-- a row of the square of the bits of blocks is the block
pub row_is : (s : ℕ → List ℕ) (b : ℕ) → b < 8 → IsBlock (s b) → get_or (square_of (λ b k p. bit_at (slice_index (s b) p) k)) b [] ≡ s b
unfolding square_of
row_is s b low block = get_or-map-range_with_len (λ r. vector_of (λ k p. bit_at (slice_index (s r) p) k)) 0 8 b b [] low (omega arith) ∙ sym (block_is (s b) block)

-- the result of a cipher on eight blocks, computed on the square of their bits, which is transposed
-- before it and after it
pub by_planes : (made : List ℕ → List ℕ) (blocks bits rounds back : List (List ℕ)) → length blocks ≡ 8 → ((x : List ℕ) → IsBlock x → IsBlock (made x)) → ((r : ℕ) → r < 8 → IsBlock (get_or blocks r [])) →
    ((bit : ℕ → ℕ → ℕ → ℕ) → ((r : ℕ) → AllBits (bit r)) → blocks ≡ square_of bit → bits ≡ square_of (λ k r p. bit r k p)) →
    ((s : ℕ → List ℕ) → AllBlocks s → bits ≡ planes s → rounds ≡ planes (λ b. made (s b))) →
    ((bit : ℕ → ℕ → ℕ → ℕ) → ((r : ℕ) → AllBits (bit r)) → rounds ≡ square_of bit → back ≡ square_of (λ k r p. bit r k p)) →
    (b : ℕ) → b < 8 → get_or back b [] ≡ made (get_or blocks b [])
by_planes made blocks bits rounds back size keeps given turn cipher turn_back b low =
    let s : ℕ → List ℕ = λ b. get_or blocks (b % 8) [] in
    let all : AllBlocks s = λ b. given (b % 8) (mod_below b 8 (omega arith)) in
    let rotated_rows = turn (λ r k p. bit_at (slice_index (s r) p) k) (λ r k p. bit_at-lt (slice_index (s r) p) k) (blocks_are blocks size given) in
    let passed = cipher s all (rotated_rows ∙ sym (planes_are s)) in
    let turned_back = turn_back (λ k b p. bit_at (slice_index (made (s b)) p) k) (λ k b p. bit_at-lt (slice_index (made (s b)) p) k) (passed ∙ planes_are (λ b. made (s b))) in
    let same : b % 8 ≡ b = omega arith in
    ap (λ v. get_or v b []) turned_back ∙ row_is (λ b. made (s b)) b low (keeps (s b) (all b)) ∙ ap (λ k. made (get_or blocks k [])) same
