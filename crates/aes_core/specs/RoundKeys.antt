-- The key schedule of AES-256 (FIPS 197, 5.2): Nk = 8 words of four bytes from the key, and 60 in
-- all. A schedule is the bytes of its words, one after the other.
use Rattle.std.specs.Prelude.{ℕ, zero, suc, ◌+◌, ◌-◌, ◌*◌, ◌/◌, ◌%◌, List, [], ◌∷◌}
use Rattle.std.specs.Prelude.{◌++◌, bit_xor, nat_eq, slice_index, if◌then◌else◌}
use Rattle.aes_core.specs.Field.{times_x}
use Rattle.aes_core.specs.Substitution.{substitute_byte}

-- a word made of its four bytes
abbrev pub word_of : (ℕ → ℕ) → List ℕ
word_of f = f 0 ∷ f 1 ∷ f 2 ∷ f 3 ∷ []

-- byte k of word i
abbrev pub word_byte : List ℕ → ℕ → ℕ → ℕ
word_byte w i k = slice_index w (4 * i + k)

-- xⁿ in the field
unfoldable pub power_of_x : ℕ → ℕ
power_of_x zero = 1
power_of_x (suc n) = times_x (power_of_x n)

-- Rcon [j] (5.2): xʲ⁻¹ and three zeros
unfoldable pub round_constant : ℕ → ℕ → ℕ
round_constant j k = if nat_eq k 0 then power_of_x (j - 1) else 0

-- the word with which word i - 8 is xored: the word before. Each eighth time that is rotated, substituted
-- and changed by the round constant, and at 4 modulo 8 it is only substituted
unfoldable pub changed_word : List ℕ → ℕ → List ℕ
changed_word w i =
    if nat_eq (i % 8) 0
    then word_of (λ k.
    bit_xor (substitute_byte (word_byte w (i - 1) ((k + 1) % 4))) (round_constant (i / 8) k))
    else if nat_eq (i % 8) 4 then word_of (λ k. substitute_byte (word_byte w (i - 1) k))
    else word_of (λ k. word_byte w (i - 1) k)

-- word i, from those before it
unfoldable pub next_word : List ℕ → ℕ → List ℕ
next_word w i = word_of (λ k. bit_xor (word_byte w (i - 8) k) (slice_index (changed_word w i) k))

-- the key and n words more
unfoldable pub key_schedule : List ℕ → ℕ → List ℕ
key_schedule key zero = key
key_schedule key (suc n) = key_schedule key n ++ next_word (key_schedule key n) (n + 8)

-- KEYEXPANSION (5.2)
unfoldable pub round_keys : List ℕ → List ℕ
round_keys key = key_schedule key 52
