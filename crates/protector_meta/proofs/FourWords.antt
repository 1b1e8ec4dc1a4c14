-- Texts of four words. Splitting a text at its spaces gives the words, and joining them gives the text.
-- The text contains no line feed if no word contains one. Lists of four items.
use Rattle.std.proofs.Common.{◌≡◌, ℕ, true, List, [], ◌∷◌, ◌++◌, length, Some, sym, ap, ◌∙◌, arith}
use Rattle.std.specs.List.{join_with_byte, slice_get}
use Rattle.std.proofs.lemmas.List.Splits.{join_with_byte-slice_split}
use Rattle.text_words.specs.Words.{words_of}
use Rattle.text_words.proofs.PieceLemmas.{free_of_both, is_free_of, split_at, split_none}

pub four_words_again : (a b c d : List ℕ) → is_free_of 32 a ≡ true → is_free_of 32 b ≡ true → is_free_of 32 c ≡ true → is_free_of 32 d ≡ true
    → words_of (a ++ 32 ∷ (b ++ 32 ∷ (c ++ 32 ∷ d))) ≡ a ∷ b ∷ c ∷ d ∷ []
four_words_again a b c d fa fb fc fd =
    split_at 32 a (b ++ 32 ∷ (c ++ 32 ∷ d)) fa
    ∙ ap (λ l. a ∷ l) (split_at 32 b (c ++ 32 ∷ d) fb
    ∙ ap (λ l. b ∷ l) (split_at 32 c d fc
    ∙ ap (λ l. c ∷ l) (split_none 32 d fd)))

pub four_words_are_free : (a b c d : List ℕ) → is_free_of 10 a ≡ true → is_free_of 10 b ≡ true → is_free_of 10 c ≡ true → is_free_of 10 d ≡ true
    → is_free_of 10 (a ++ 32 ∷ (b ++ 32 ∷ (c ++ 32 ∷ d))) ≡ true
four_words_are_free a b c d fa fb fc fd =
    free_of_both 10 a (32 ∷ (b ++ 32 ∷ (c ++ 32 ∷ d))) fa (free_of_both 10 b (32 ∷ (c ++ 32 ∷ d)) fb (free_of_both 10 c (32 ∷ d) fc fd))

pub four_words_found : (text a b c d : List ℕ) → words_of text ≡ a ∷ b ∷ c ∷ d ∷ [] → text ≡ a ++ 32 ∷ (b ++ 32 ∷ (c ++ 32 ∷ d))
four_words_found text a b c d are = sym (join_with_byte-slice_split 32 text) ∙ ap (join_with_byte 32) are

-- a list of four is its four items
pub four : (words : List (List ℕ)) (a b c d : List ℕ) → length words ≡ 4
    → slice_get words 0 ≡ Some a → slice_get words 1 ≡ Some b → slice_get words 2 ≡ Some c → slice_get words 3 ≡ Some d
    → words ≡ a ∷ b ∷ c ∷ d ∷ []
four [] a b c d len w x y z = absurd (omega arith)
four (p ∷ []) a b c d len w x y z = absurd (omega arith)
four (p ∷ q ∷ []) a b c d len w x y z = absurd (omega arith)
four (p ∷ q ∷ r ∷ []) a b c d len w x y z = absurd (omega arith)
four (p ∷ q ∷ r ∷ s ∷ []) a b c d len w x y z = cc
four (p ∷ q ∷ r ∷ s ∷ t ∷ more) a b c d len w x y z = absurd (omega arith)
