-- The words of a line.
use Rattle.std.proofs.Common.{◌≡◌, ℕ, ◌+◌, ◌-◌, ◌^◌, ◌<◌, ◌≤◌, false, List, [], ◌∷◌, ◌++◌, length, take, refl, ap, sym, ◌∙◌, append_assoc, arith, length-append, ne_eqb}
use Rattle.std.specs.List.{All}
use Rattle.std.proofs.Math.Seq.{take-append_seam}
use Rattle.std.proofs.lemmas.List.Elements.{All-cons, All-head, All-nil, All-tail}
use Rattle.std.proofs.lemmas.List.Splits.{slice_split_at, slice_split_none}
use Rattle.hex.specs.Hex.{IsBytes, encode_lower}
use Rattle.text_words.specs.Numbers.{decimal_of}
use Rattle.text_words.specs.Words.{words_of, is_space}
use Rattle.reply_text.proofs.FieldLemmas.{IsField-decimal, IsField-digits, IsFieldByte}

-- a byte of a word
abbrev pub IsWordByte : ℕ → Type 0
IsWordByte b = 33 ≤ b

abbrev pub IsWord : List ℕ → Type 0
IsWord word = All IsWordByte word

pub field_is_word : (word : List ℕ) → All IsFieldByte word → IsWord word
field_is_word word h k d within = (h k d within).0

wide : (n : ℕ) → n < 2 ^ 32 → n < 2 ^ 64
wide n small = omega arith

pub number_word : (n : ℕ) → n < 2 ^ 64 → IsWord (decimal_of n)
number_word n small = field_is_word (decimal_of n) (IsField-decimal n small)

pub small_word : (n : ℕ) → n < 2 ^ 32 → IsWord (decimal_of n)
small_word n small = number_word n (wide n small)

pub digits_word : (bytes : List ℕ) → IsBytes bytes → IsWord (encode_lower bytes)
digits_word bytes h = field_is_word (encode_lower bytes) (IsField-digits bytes h)

pub one : (a : List ℕ) → IsWord a → All IsWord (a ∷ [])
one a ha = All-cons IsWord a [] ha (All-nil IsWord)

-- a word and others, with a space between each and the next
abbrev pub spaced : List ℕ → List (List ℕ) → List ℕ
spaced word [] = word
spaced word (next ∷ more) = word ++ (32 ∷ spaced next more)

-- these, and others after them
pub spaced-append : (word : List ℕ) (some : List (List ℕ)) (next : List ℕ) (more : List (List ℕ))
    → spaced word (some ++ (next ∷ more)) ≡ spaced word some ++ (32 ∷ spaced next more)
spaced-append word [] next more = refl
spaced-append word (other ∷ some) next more =
    ap (λ (t : List ℕ). word ++ (32 ∷ t)) (spaced-append other some next more)
    ∙ sym (append_assoc word (32 ∷ spaced other some) (32 ∷ spaced next more))

no_space : (word : List ℕ) → IsWord word → All (λ b. is_space b ≡ false) word
no_space word h k d within = apart _ (h k d within)
  where
    apart : (b : ℕ) → 33 ≤ b → is_space b ≡ false
    apart b high = ne_eqb b 32 (λ same. omega (arith, same))

-- spaces separate the words
pub words_of-spaced : (word : List ℕ) (more : List (List ℕ)) → IsWord word → All IsWord more → words_of (spaced word more) ≡ word ∷ more
words_of-spaced word [] first rest = slice_split_none is_space word (no_space word first)
words_of-spaced word (next ∷ more) first rest =
    slice_split_at is_space word 32 (spaced next more) (no_space word first) refl
    ∙ ap (λ (l : List (List ℕ)). word ∷ l) (words_of-spaced next more (All-head IsWord next more rest) (All-tail IsWord next more rest))

-- a text before its last byte
pub without_last : (text : List ℕ) (last : ℕ) → take (length (text ++ last ∷ []) - 1) (text ++ last ∷ []) ≡ text
without_last text last =
    let long : length (text ++ last ∷ []) - 1 ≡ length text = omega (arith, length-append text (last ∷ [])) in
    ap (λ (n : ℕ). take n (text ++ last ∷ [])) long ∙ take-append_seam text (last ∷ [])
