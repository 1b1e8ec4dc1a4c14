-- Decryption undoes encryption round by round, and encryption decryption.
use Rattle.std.proofs.Common.{◌≡◌, ℕ, zero, suc, ◌+◌, ◌-◌, ◌/◌, ◌%◌, ◌<◌, Bool, true, false, List, [], ◌∷◌, ◌++◌, length, get_or, refl, ap, ◌∙◌, arith}
use Rattle.std.proofs.lemmas.Nat.{xor_of_8}
use Rattle.std.specs.Prelude.{bit_xor, nat_eq, if◌then◌else◌}
use Rattle.byte_words.specs.Bytes.{AreBytes}
use Rattle.aes_core.specs.Aes.{state_after, encrypted_with, rounds_undone, decrypted_with, encrypted_block, decrypted_block}
use Rattle.aes_core.specs.Laws.{IsBlock}
use Rattle.aes_core.specs.RoundKeys.{word_of, word_byte, power_of_x, round_constant, changed_word, next_word, key_schedule, round_keys}
use Rattle.aes_core.specs.Steps.{substitute_bytes, shift_rows, mix_columns, inverse_substitute_bytes, inverse_shift_rows, inverse_mix_columns, add_round_key}
use Rattle.aes_core.specs.Substitution.{substitute_byte}
use Rattle.aes_core.proofs.ByteTables.{substitute_byte-lt, times_x-lt}
use Rattle.aes_core.proofs.InverseLemmas.{substitute_bytes-IsBlock, inverse_substitute_bytes-IsBlock, shift_rows-IsBlock, inverse_shift_rows-IsBlock, mix_columns-IsBlock, inverse_mix_columns-IsBlock, add_round_key-IsBlock, add_round_key_twice, inverse_substitute_bytes-substitute_bytes, substitute_bytes-inverse_substitute_bytes, inverse_shift_rows-shift_rows, shift_rows-inverse_shift_rows, inverse_mix_columns-mix_columns, mix_columns-inverse_mix_columns}

-- ---- round keys are bytes

append-AreBytes : (xs ys : List ℕ) → AreBytes xs → AreBytes ys → AreBytes (xs ++ ys)
append-AreBytes [] ys xb yb i = yb i
append-AreBytes (x ∷ xs) ys xb yb zero = xb 0
append-AreBytes (x ∷ xs) ys xb yb (suc i) = append-AreBytes xs ys (λ k. xb (suc k)) yb i

word_of-AreBytes : (f : ℕ → ℕ) → ((k : ℕ) → f k < 256) → AreBytes (word_of f)
word_of-AreBytes f small zero = small 0
word_of-AreBytes f small (suc zero) = small 1
word_of-AreBytes f small (suc (suc zero)) = small 2
word_of-AreBytes f small (suc (suc (suc zero))) = small 3
word_of-AreBytes f small (suc (suc (suc (suc i)))) = omega arith

power_of_x-lt : (n : ℕ) → power_of_x n < 256
unfolding power_of_x
power_of_x-lt zero = omega arith
power_of_x-lt (suc n) = times_x-lt (power_of_x n) (power_of_x-lt n)

chosen-lt : (q : Bool) (n : ℕ) → n < 256 → (if q then n else 0) < 256
chosen-lt true n small = small
chosen-lt false n small = omega arith

round_constant-lt : (j k : ℕ) → round_constant j k < 256
unfolding round_constant
round_constant-lt j k = chosen-lt (nat_eq k 0) (power_of_x (j - 1)) (power_of_x-lt (j - 1))

chosen-AreBytes : (p q : Bool) (xs ys zs : List ℕ) → AreBytes xs → AreBytes ys → AreBytes zs → AreBytes (if p then xs else if q then ys else zs)
chosen-AreBytes true q xs ys zs xb yb zb = xb
chosen-AreBytes false true xs ys zs xb yb zb = yb
chosen-AreBytes false false xs ys zs xb yb zb = zb

changed_word-AreBytes : (w : List ℕ) (i : ℕ) → AreBytes w → AreBytes (changed_word w i)
unfolding changed_word
changed_word-AreBytes w i keys = chosen-AreBytes (nat_eq (i % 8) 0) (nat_eq (i % 8) 4) _ _ _
    (word_of-AreBytes (λ k. bit_xor (substitute_byte (word_byte w (i - 1) ((k + 1) % 4))) (round_constant (i / 8) k))
    (λ k. xor_of_8 (substitute_byte (word_byte w (i - 1) ((k + 1) % 4))) (round_constant (i / 8) k) (substitute_byte-lt (word_byte w (i - 1) ((k + 1) % 4)) (keys _)) (round_constant-lt (i / 8) k)))
    (word_of-AreBytes (λ k. substitute_byte (word_byte w (i - 1) k)) (λ k. substitute_byte-lt (word_byte w (i - 1) k) (keys _)))
    (word_of-AreBytes (λ k. word_byte w (i - 1) k) (λ k. keys _))

next_word-AreBytes : (w : List ℕ) (i : ℕ) → AreBytes w → AreBytes (next_word w i)
unfolding next_word
next_word-AreBytes w i keys = word_of-AreBytes (λ k. bit_xor (word_byte w (i - 8) k) (get_or (changed_word w i) k 0))
    (λ k. xor_of_8 (word_byte w (i - 8) k) (get_or (changed_word w i) k 0) (keys _) (changed_word-AreBytes w i keys k))

key_schedule-AreBytes : (key : List ℕ) (n : ℕ) → AreBytes key → AreBytes (key_schedule key n)
unfolding key_schedule
key_schedule-AreBytes key zero bytes = bytes
key_schedule-AreBytes key (suc n) bytes = append-AreBytes (key_schedule key n) (next_word (key_schedule key n) (n + 8)) (key_schedule-AreBytes key n bytes)
    (next_word-AreBytes (key_schedule key n) (n + 8) (key_schedule-AreBytes key n bytes))

round_keys-AreBytes : (key : List ℕ) → AreBytes key → AreBytes (round_keys key)
unfolding round_keys
round_keys-AreBytes key bytes = key_schedule-AreBytes key 52 bytes

-- ---- blocks stay blocks

pub moved-IsBlock : (s : List ℕ) → IsBlock s → IsBlock (shift_rows (substitute_bytes s))
moved-IsBlock s block = shift_rows-IsBlock (substitute_bytes s) (substitute_bytes-IsBlock s block)

pub moved_back-IsBlock : (s : List ℕ) → IsBlock s → IsBlock (inverse_substitute_bytes (inverse_shift_rows s))
moved_back-IsBlock s block = inverse_substitute_bytes-IsBlock (inverse_shift_rows s) (inverse_shift_rows-IsBlock s block)

pub state_after-IsBlock : (w block : List ℕ) (n : ℕ) → AreBytes w → IsBlock block → IsBlock (state_after w block n)
unfolding state_after
state_after-IsBlock w block zero keys is = add_round_key-IsBlock w 0 block keys is
state_after-IsBlock w block (suc n) keys is = add_round_key-IsBlock w (suc n) (mix_columns (shift_rows (substitute_bytes (state_after w block n)))) keys
    (mix_columns-IsBlock (shift_rows (substitute_bytes (state_after w block n))) (moved-IsBlock (state_after w block n) (state_after-IsBlock w block n keys is)))

pub rounds_undone-IsBlock : (w s : List ℕ) (n : ℕ) → AreBytes w → IsBlock s → IsBlock (rounds_undone w s n)
unfolding rounds_undone
rounds_undone-IsBlock w s zero keys is = add_round_key-IsBlock w 0 (inverse_substitute_bytes (inverse_shift_rows s)) keys (moved_back-IsBlock s is)
rounds_undone-IsBlock w s (suc n) keys is = rounds_undone-IsBlock w (inverse_mix_columns (add_round_key w (suc n) (inverse_substitute_bytes (inverse_shift_rows s)))) n keys
    (inverse_mix_columns-IsBlock (add_round_key w (suc n) (inverse_substitute_bytes (inverse_shift_rows s)))
    (add_round_key-IsBlock w (suc n) (inverse_substitute_bytes (inverse_shift_rows s)) keys (moved_back-IsBlock s is)))

pub encrypted_block-IsBlock : (key block : List ℕ) → AreBytes key → IsBlock block → IsBlock (encrypted_block key block)
unfolding encrypted_block encrypted_with
encrypted_block-IsBlock key block bytes is =
    add_round_key-IsBlock (round_keys key) 14 (shift_rows (substitute_bytes (state_after (round_keys key) block 13))) (round_keys-AreBytes key bytes)
    (moved-IsBlock (state_after (round_keys key) block 13) (state_after-IsBlock (round_keys key) block 13 (round_keys-AreBytes key bytes) is))

pub decrypted_block-IsBlock : (key block : List ℕ) → AreBytes key → IsBlock block → IsBlock (decrypted_block key block)
unfolding decrypted_block decrypted_with
decrypted_block-IsBlock key block bytes is =
    rounds_undone-IsBlock (round_keys key) (add_round_key (round_keys key) 14 block) 13 (round_keys-AreBytes key bytes)
    (add_round_key-IsBlock (round_keys key) 14 block (round_keys-AreBytes key bytes) is)

pub length-encrypted_block : (key block : List ℕ) → length (encrypted_block key block) ≡ 16
unfolding encrypted_block encrypted_with add_round_key
length-encrypted_block key block = refl

length-rounds_undone : (w s : List ℕ) (n : ℕ) → length (rounds_undone w s n) ≡ 16
unfolding rounds_undone add_round_key
length-rounds_undone w s zero = refl
length-rounds_undone w s (suc n) = length-rounds_undone w (inverse_mix_columns (add_round_key w (suc n) (inverse_substitute_bytes (inverse_shift_rows s)))) n

pub length-decrypted_block : (key block : List ℕ) → length (decrypted_block key block) ≡ 16
unfolding decrypted_block decrypted_with
length-decrypted_block key block = length-rounds_undone (round_keys key) (add_round_key (round_keys key) 14 block) 13

-- ---- the rounds

moved_back-moved : (s : List ℕ) → IsBlock s → inverse_substitute_bytes (inverse_shift_rows (shift_rows (substitute_bytes s))) ≡ s
moved_back-moved s is =
    ap inverse_substitute_bytes (inverse_shift_rows-shift_rows (substitute_bytes s) (substitute_bytes-IsBlock s is)) ∙ inverse_substitute_bytes-substitute_bytes s is

moved-moved_back : (s : List ℕ) → IsBlock s → shift_rows (substitute_bytes (inverse_substitute_bytes (inverse_shift_rows s))) ≡ s
moved-moved_back s is =
    ap shift_rows (substitute_bytes-inverse_substitute_bytes (inverse_shift_rows s) (inverse_shift_rows-IsBlock s is)) ∙ shift_rows-inverse_shift_rows s is

-- undoing n rounds, on their result, gives the block
undone-state_after : (w block : List ℕ) (n : ℕ) → AreBytes w → IsBlock block → rounds_undone w (shift_rows (substitute_bytes (state_after w block n))) n ≡ block
unfolding rounds_undone state_after
undone-state_after w block zero keys is =
    ap (λ s. add_round_key w 0 s) (moved_back-moved (add_round_key w 0 block) (add_round_key-IsBlock w 0 block keys is)) ∙ add_round_key_twice w 0 block is
undone-state_after w block (suc n) keys is =
    let before : List ℕ = shift_rows (substitute_bytes (state_after w block n)) in
    let before_is : IsBlock before = moved-IsBlock (state_after w block n) (state_after-IsBlock w block n keys is) in
    let mixed_is : IsBlock (mix_columns before) = mix_columns-IsBlock before before_is in
    let here : inverse_mix_columns (add_round_key w (suc n) (inverse_substitute_bytes (inverse_shift_rows (shift_rows (substitute_bytes (add_round_key w (suc n) (mix_columns before))))))) ≡ before =
    ap (λ s. inverse_mix_columns (add_round_key w (suc n) s)) (moved_back-moved (add_round_key w (suc n) (mix_columns before)) (add_round_key-IsBlock w (suc n) (mix_columns before) keys mixed_is))
    ∙ ap inverse_mix_columns (add_round_key_twice w (suc n) (mix_columns before) mixed_is) ∙ inverse_mix_columns-mix_columns before before_is in
    ap (λ s. rounds_undone w s n) here ∙ undone-state_after w block n keys is

pub decrypted-encrypted : (key block : List ℕ) → AreBytes key → IsBlock block → decrypted_block key (encrypted_block key block) ≡ block
unfolding encrypted_block encrypted_with decrypted_block decrypted_with
decrypted-encrypted key block bytes is =
    let keys : AreBytes (round_keys key) = round_keys-AreBytes key bytes in
    let last : IsBlock (shift_rows (substitute_bytes (state_after (round_keys key) block 13))) =
    moved-IsBlock (state_after (round_keys key) block 13) (state_after-IsBlock (round_keys key) block 13 keys is) in
    ap (λ s. rounds_undone (round_keys key) s 13) (add_round_key_twice (round_keys key) 14 (shift_rows (substitute_bytes (state_after (round_keys key) block 13))) last)
    ∙ undone-state_after (round_keys key) block 13 keys is

-- n rounds, on what was undone, give the state before undoing, with the bytes and rows moved back
state_after-undone : (w s : List ℕ) (n : ℕ) → AreBytes w → IsBlock s → state_after w (rounds_undone w s n) n ≡ inverse_substitute_bytes (inverse_shift_rows s)
unfolding rounds_undone state_after
state_after-undone w s zero keys is = add_round_key_twice w 0 (inverse_substitute_bytes (inverse_shift_rows s)) (moved_back-IsBlock s is)
state_after-undone w s (suc n) keys is =
    let back : List ℕ = inverse_substitute_bytes (inverse_shift_rows s) in
    let back_is : IsBlock back = moved_back-IsBlock s is in
    let added_is : IsBlock (add_round_key w (suc n) back) = add_round_key-IsBlock w (suc n) back keys back_is in
    let inner : List ℕ = inverse_mix_columns (add_round_key w (suc n) back) in
    let inner_is : IsBlock inner = inverse_mix_columns-IsBlock (add_round_key w (suc n) back) added_is in
    ap (λ t. add_round_key w (suc n) (mix_columns (shift_rows (substitute_bytes t)))) (state_after-undone w inner n keys inner_is)
    ∙ ap (λ t. add_round_key w (suc n) (mix_columns t)) (moved-moved_back inner inner_is)
    ∙ ap (λ t. add_round_key w (suc n) t) (mix_columns-inverse_mix_columns (add_round_key w (suc n) back) added_is)
    ∙ add_round_key_twice w (suc n) back back_is

pub encrypted-decrypted : (key block : List ℕ) → AreBytes key → IsBlock block → encrypted_block key (decrypted_block key block) ≡ block
unfolding encrypted_block encrypted_with decrypted_block decrypted_with
encrypted-decrypted key block bytes is =
    let w : List ℕ = round_keys key in
    let keys : AreBytes w = round_keys-AreBytes key bytes in
    let first : IsBlock (add_round_key w 14 block) = add_round_key-IsBlock w 14 block keys is in
    ap (λ t. add_round_key w 14 (shift_rows (substitute_bytes t))) (state_after-undone w (add_round_key w 14 block) 13 keys first)
    ∙ ap (λ t. add_round_key w 14 t) (moved-moved_back (add_round_key w 14 block) first) ∙ add_round_key_twice w 14 block is
