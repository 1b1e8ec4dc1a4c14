-- Counter mode: the keystream is long enough, and a second pass undoes the first.
use Rattle.std.proofs.Common.{◌≡◌, ℕ, ◌*◌, ◌≤◌, List, ◌++◌, length, take, ap, ◌∙◌, arith}
use Rattle.std.proofs.lemmas.Grind.{div_ceil_times}
use Rattle.std.specs.Int.{div_ceil}
use Rattle.byte_words.specs.Blocks.{first_blocks}
use Rattle.byte_words.specs.Xor.{xor_bytes}
use Rattle.byte_words.proofs.BlockLemmas.{length-first_blocks}
use Rattle.key_wrap.specs.CounterMode.{counter_block, keystream, counter_mode}
use Rattle.key_wrap.proofs.ByteLemmas.{xor_bytes-longer, xor_bytes-take, xor_bytes-back, length-xor_bytes_longer}

-- the keystream has no fewer bytes than the text
pub keystream-long : (encrypt : List ℕ → List ℕ) (iv : List ℕ) (len : ℕ) → ((x : List ℕ) → length (encrypt x) ≡ 16) → len ≤ length (keystream encrypt iv len)
unfolding keystream
keystream-long encrypt iv len sizes =
    let whole : length (first_blocks (λ j. encrypt (counter_block iv j)) (div_ceil len 16)) ≡ 16 * div_ceil len 16 =
    length-first_blocks 16 (λ j. encrypt (counter_block iv j)) (div_ceil len 16) (λ j. sizes (counter_block iv j)) in
    omega (arith, div_ceil_times len 16 (omega arith))

-- a longer stream, cut at the end of the text, does the same
pub counter_mode-cut : (encrypt : List ℕ → List ℕ) (iv text rest : List ℕ) → ((x : List ℕ) → length (encrypt x) ≡ 16) →
    xor_bytes text (take (length text) (keystream encrypt iv (length text) ++ rest)) ≡ counter_mode encrypt iv text
unfolding counter_mode
counter_mode-cut encrypt iv text rest sizes =
    xor_bytes-take text (keystream encrypt iv (length text) ++ rest)
    ∙ xor_bytes-longer text (keystream encrypt iv (length text)) rest (keystream-long encrypt iv (length text) sizes)

pub length-counter_mode : (encrypt : List ℕ → List ℕ) (iv text : List ℕ) → ((x : List ℕ) → length (encrypt x) ≡ 16) → length (counter_mode encrypt iv text) ≡ length text
unfolding counter_mode
length-counter_mode encrypt iv text sizes =
    length-xor_bytes_longer text (keystream encrypt iv (length text)) (keystream-long encrypt iv (length text) sizes)

-- the second pass undoes the first
pub counter_mode-twice : (encrypt : List ℕ → List ℕ) (iv text : List ℕ) → ((x : List ℕ) → length (encrypt x) ≡ 16) →
    counter_mode encrypt iv (counter_mode encrypt iv text) ≡ text
unfolding counter_mode
counter_mode-twice encrypt iv text sizes =
    let stream : List ℕ = keystream encrypt iv (length text) in
    let long : length text ≤ length stream = keystream-long encrypt iv (length text) sizes in
    ap (λ n. xor_bytes (xor_bytes text stream) (keystream encrypt iv n)) (length-xor_bytes_longer text stream long)
    ∙ xor_bytes-back text stream long
