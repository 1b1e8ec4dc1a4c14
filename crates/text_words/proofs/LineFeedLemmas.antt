-- The first line feed, as `memchr` finds it.
use Rattle.std.proofs.Common.{◌≡◌, ℕ, Bool, true, false, List, length, Option, Some, None, refl, sym, arith}
use Rattle.std.specs.List.{position_or_len}
use Rattle.std.specs.Option.{unwrap_or}
use Rattle.std.proofs.lemmas.List.Sums.{position_or_len_is}
use Rattle.memchr.specs.Find.{IsFirstByte, is_byte}
use Rattle.text_words.specs.Lines.{is_line_feed}

not_true : (b : Bool) → ¬ (b ≡ true) → b ≡ false
not_true true is_not = absurd (is_not refl)
not_true false is_not = refl

pub line_feed_found : (text : List ℕ) (r : Option ℕ) → IsFirstByte (is_byte 10) text r
    → unwrap_or r (length text) ≡ position_or_len is_line_feed text
line_feed_found text None none =
    sym (position_or_len_is is_line_feed text (length text) 0 (omega arith) (λ k low. not_true _ (none k (omega arith) low)) (λ low. absurd (omega arith)))
line_feed_found text (Some k) first =
    sym (position_or_len_is is_line_feed text k 0 (omega (arith, first.0.high)) (λ j low. not_true _ (first.0.before j (omega arith) low)) (λ low. first.1))
