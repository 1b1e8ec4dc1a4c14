use Rattle.std.proofs.Common.{◌≡◌, ℕ, ◌==◌, List, length, Option, Some, None, sym, ◌∙◌, arith, le_refl}
use Rattle.std.specs.List.{position_or_len}
use Rattle.std.specs.Option.{unwrap_or}
use Rattle.std.proofs.lemmas.Bool.{false_from_ne_true}
use Rattle.std.proofs.lemmas.List.Sums.{position_or_len_is}
use Rattle.memchr.specs.Find.{IsFirstByte, is_byte}
use Rattle.script_words.proofs.places.place_of.Goals as goal

first_or_length : (mark : ℕ) (text : List ℕ) (found : Option ℕ) → IsFirstByte (is_byte mark) text found
    → unwrap_or found (length text) ≡ position_or_len (λ b. b == mark) text
first_or_length mark text None h =
    sym (position_or_len_is (λ b. b == mark) text (length text) 0 (le_refl _)
    (λ k lt. false_from_ne_true _ (h k (omega arith) lt)) (λ lt. absurd (omega arith)))
first_or_length mark text (Some place) h =
    sym (position_or_len_is (λ b. b == mark) text place 0 (omega (arith, h.0.high))
    (λ k lt. false_from_ne_true _ (h.0.before k (omega arith) lt)) (λ _. h.1))

pub returns : goal.returns
returns c = c.unwrap_or.ensures ∙ first_or_length c.args.mark c.args.text.now c.memchr.result c.memchr.ensures
