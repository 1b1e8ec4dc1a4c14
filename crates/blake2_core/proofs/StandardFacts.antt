-- Digests from outside, so that a wrong constant, round or padding in the definition does not check,
-- and the length of a digest.
use Rattle.std.proofs.Common.{◌≡◌, ◌≤◌, ℕ, Bool, List, [], ◌∷◌, codes, true, length, refl, arith}
use Rattle.std.proofs.lemmas.List.{length-take-le}
use Rattle.std.specs.List.{range_with_len}
use Rattle.blake2_core.specs.Words.{block_words, bytes_of_words}
use Rattle.blake2_core.specs.Compression.{compressed}
use Rattle.blake2_core.specs.Mixing.{mixed, mixed_round, rounds}
use Rattle.byte_words.specs.Blocks.{block_at}
use Rattle.byte_words.specs.Numbers.{little_endian_value}
use Rattle.byte_words.specs.Xor.{zero_filled}
use Rattle.blake2_core.specs.Digest.{state_after, last_block, blake2b_digest}

-- RFC 7693, appendix A
pub digest_of_abc : blake2b_digest 64 (codes "abc") ≡ 186 ∷ 128 ∷ 165 ∷ 63 ∷ 152 ∷ 28 ∷ 77 ∷ 13 ∷ 106 ∷ 39 ∷ 151 ∷ 182 ∷ 159 ∷ 18 ∷ 246 ∷ 233 ∷ 76 ∷ 33 ∷ 47 ∷ 20 ∷ 104 ∷ 90 ∷ 196 ∷ 183 ∷ 75 ∷ 18 ∷ 187 ∷ 111 ∷ 219 ∷ 255 ∷ 162 ∷ 209 ∷ 125 ∷ 135 ∷ 197 ∷ 57 ∷ 42 ∷ 171 ∷ 121 ∷ 45 ∷ 194 ∷ 82 ∷ 213 ∷ 222 ∷ 69 ∷ 51 ∷ 204 ∷ 149 ∷ 24 ∷ 211 ∷ 138 ∷ 168 ∷ 219 ∷ 241 ∷ 146 ∷ 90 ∷ 185 ∷ 35 ∷ 134 ∷ 237 ∷ 212 ∷ 0 ∷ 153 ∷ 35 ∷ []
unfolding block_at little_endian_value zero_filled block_words mixed mixed_round rounds compressed state_after blake2b_digest
digest_of_abc = refl

-- the bytes 0 to 128, which make two blocks, by Python's hashlib
pub digest_of_two_blocks : blake2b_digest 32 (range_with_len 0 129) ≡ 247 ∷ 243 ∷ 196 ∷ 107 ∷ 162 ∷ 86 ∷ 79 ∷ 244 ∷ 196 ∷ 193 ∷ 98 ∷ 218 ∷ 31 ∷ 91 ∷ 96 ∷ 95 ∷ 159 ∷ 28 ∷ 74 ∷ 166 ∷ 162 ∷ 6 ∷ 82 ∷ 169 ∷ 249 ∷ 163 ∷ 55 ∷ 193 ∷ 162 ∷ 245 ∷ 185 ∷ 201 ∷ []
unfolding block_at little_endian_value zero_filled block_words mixed mixed_round rounds compressed state_after blake2b_digest
digest_of_two_blocks = refl

state_long : (state block : List ℕ) (count : ℕ) (last : Bool) → length (bytes_of_words (compressed state block count last)) ≡ 64
unfolding compressed
state_long state block count last = refl

-- a digest has the length that is asked for
pub length-blake2b_digest : (size : ℕ) (message : List ℕ) → size ≤ 64 → length (blake2b_digest size message) ≡ size
unfolding blake2b_digest
length-blake2b_digest size message most =
    let n : ℕ = last_block message in
    let before : List ℕ = state_after size message n in
    let block : List ℕ = zero_filled 128 (block_at 128 message n) in
    length-take-le size (bytes_of_words (compressed before block (length message) true)) (omega (arith, state_long before block (length message) true))
