-- The words of the key schedule, one by one.
use Rattle.std.proofs.Common.{◌≡◌, ℕ, ◌+◌, ◌-◌, ◌*◌, ◌/◌, ◌%◌, ◌≤◌, List, [], ◌∷◌, length, take, get_or, zero, suc, length-append, refl, ◌∙◌, arith}
use Rattle.std.proofs.lemmas.List.{get_or-take, take_all, take-append-le}
use Rattle.std.specs.Prelude.{bit_xor, nat_eq, if◌then◌else◌}
use Rattle.aes_core.specs.RoundKeys.{round_constant, changed_word, next_word, key_schedule, round_keys}
use Rattle.aes_core.specs.Substitution.{substitute_byte}

-- a word is made of those before it alone
changed_word-take : (w : List ℕ) (m i : ℕ) → 8 ≤ i → 4 * i ≤ m → changed_word (take m w) i ≡ changed_word w i
unfolding changed_word
changed_word-take w m i some front =
    let r0 : get_or (take m w) (4 * (i - 1) + 0) 0 ≡ get_or w (4 * (i - 1) + 0) 0 = get_or-take m w (4 * (i - 1) + 0) 0 (omega arith) in
    let r1 : get_or (take m w) (4 * (i - 1) + 1) 0 ≡ get_or w (4 * (i - 1) + 1) 0 = get_or-take m w (4 * (i - 1) + 1) 0 (omega arith) in
    let r2 : get_or (take m w) (4 * (i - 1) + 2) 0 ≡ get_or w (4 * (i - 1) + 2) 0 = get_or-take m w (4 * (i - 1) + 2) 0 (omega arith) in
    let r3 : get_or (take m w) (4 * (i - 1) + 3) 0 ≡ get_or w (4 * (i - 1) + 3) 0 = get_or-take m w (4 * (i - 1) + 3) 0 (omega arith) in
    λ j. if nat_eq (i % 8) 0 then
    bit_xor (substitute_byte (r1 j)) (round_constant (i / 8) 0) ∷ bit_xor (substitute_byte (r2 j)) (round_constant (i / 8) 1) ∷
    bit_xor (substitute_byte (r3 j)) (round_constant (i / 8) 2) ∷ bit_xor (substitute_byte (r0 j)) (round_constant (i / 8) 3) ∷ []
    else if nat_eq (i % 8) 4 then substitute_byte (r0 j) ∷ substitute_byte (r1 j) ∷ substitute_byte (r2 j) ∷ substitute_byte (r3 j) ∷ []
    else r0 j ∷ r1 j ∷ r2 j ∷ r3 j ∷ []

pub next_word-take : (w : List ℕ) (m i : ℕ) → 8 ≤ i → 4 * i ≤ m → next_word (take m w) i ≡ next_word w i
unfolding next_word
next_word-take w m i some front =
    let r0 : get_or (take m w) (4 * (i - 8) + 0) 0 ≡ get_or w (4 * (i - 8) + 0) 0 = get_or-take m w (4 * (i - 8) + 0) 0 (omega arith) in
    let r1 : get_or (take m w) (4 * (i - 8) + 1) 0 ≡ get_or w (4 * (i - 8) + 1) 0 = get_or-take m w (4 * (i - 8) + 1) 0 (omega arith) in
    let r2 : get_or (take m w) (4 * (i - 8) + 2) 0 ≡ get_or w (4 * (i - 8) + 2) 0 = get_or-take m w (4 * (i - 8) + 2) 0 (omega arith) in
    let r3 : get_or (take m w) (4 * (i - 8) + 3) 0 ≡ get_or w (4 * (i - 8) + 3) 0 = get_or-take m w (4 * (i - 8) + 3) 0 (omega arith) in
    λ j. bit_xor (r0 j) (get_or (changed_word-take w m i some front j) 0 0) ∷ bit_xor (r1 j) (get_or (changed_word-take w m i some front j) 1 0) ∷
    bit_xor (r2 j) (get_or (changed_word-take w m i some front j) 2 0) ∷ bit_xor (r3 j) (get_or (changed_word-take w m i some front j) 3 0) ∷ []

pub length-next_word : (w : List ℕ) (i : ℕ) → length (next_word w i) ≡ 4
unfolding next_word
length-next_word w i = refl

next_length : (n : ℕ) → 4 * n + 32 + 4 ≡ 4 * suc n + 32
next_length n = omega arith

pub length-key_schedule : (key : List ℕ) (n : ℕ) → length key ≡ 32 → length (key_schedule key n) ≡ 4 * n + 32
unfolding key_schedule
length-key_schedule key zero whole = whole
length-key_schedule key (suc n) whole =
    length-append (key_schedule key n) (next_word (key_schedule key n) (n + 8))
    ∙ (λ j. length-key_schedule key n whole j + length-next_word (key_schedule key n) (n + 8) j) ∙ next_length n

-- the key is the beginning of its schedule
take-key_schedule : (key : List ℕ) (n : ℕ) → length key ≡ 32 → take 32 (key_schedule key n) ≡ key
unfolding key_schedule
take-key_schedule key zero whole = take_all 32 key (omega arith)
take-key_schedule key (suc n) whole =
    let size : length (key_schedule key n) ≡ 4 * n + 32 = length-key_schedule key n whole in
    take-append-le 32 (key_schedule key n) (next_word (key_schedule key n) (n + 8)) (omega arith) ∙ take-key_schedule key n whole

pub take-round_keys : (key : List ℕ) → length key ≡ 32 → take 32 (round_keys key) ≡ key
unfolding round_keys
take-round_keys key whole = take-key_schedule key 52 whole
