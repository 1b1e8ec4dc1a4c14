-- Blocks of 1,024 bytes, as 128 words, and the compression function G (RFC 9106, 3.5). G sees a block
-- as a square of 8 rows of 8 registers, each of two words.
use Rattle.std.specs.Prelude.{ℕ, zero, suc, ◌+◌, ◌*◌, ◌/◌, ◌%◌, List, ◌++◌}
use Rattle.std.specs.Prelude.{take, drop, bit_xor, slice_index, map, replicate}
use Rattle.std.specs.List.{range_with_len}
use Rattle.blake2_core.specs.Words.{word_at}
use Rattle.argon_kdf.specs.Permutation.{permuted}

-- 1,024 bytes as words, the low byte first
unfoldable pub block_of : List ℕ → List ℕ
block_of bytes = map (word_at bytes) (range_with_len 0 128)

-- the block of zeros
unfoldable pub zero_block : List ℕ
zero_block = replicate 128 0

-- two blocks, xored word by word
unfoldable pub xored : List ℕ → List ℕ → List ℕ
xored x y = map (λ n. bit_xor (slice_index x n) (slice_index y n)) (range_with_len 0 128)

-- the 16 words of row i
abbrev pub row : List ℕ → ℕ → List ℕ
row block i = map (λ k. slice_index block (16 * i + k)) (range_with_len 0 16)

-- the block with row i permuted
unfoldable pub row_permuted : List ℕ → ℕ → List ℕ
row_permuted block i = take (16 * i) block ++ (permuted (row block i) ++ drop (16 * i + 16) block)

-- the block with its first n rows permuted
unfoldable pub first_rows_permuted : List ℕ → ℕ → List ℕ
first_rows_permuted block zero = block
first_rows_permuted block (suc n) = row_permuted (first_rows_permuted block n) n

-- with all its rows permuted
abbrev pub permuted_rows : List ℕ → List ℕ
permuted_rows block = first_rows_permuted block 8

-- the square with its rows and columns of registers exchanged
unfoldable pub transposed : List ℕ → List ℕ
transposed block =
    map (λ n. slice_index block (16 * (n % 16 / 2) + (2 * (n / 16) + n % 2))) (range_with_len 0 128)

-- G: the two blocks xored; of that the rows permuted, then the columns; and the two results xored (3.5)
unfoldable pub joined : List ℕ → List ℕ → List ℕ
joined x y =
    let r = xored x y in
    xored (transposed (permuted_rows (transposed (permuted_rows r)))) r
