use Rattle.std.proofs.Common.{◌∙◌, sym, ap}
use Rattle.std.specs.Option.{option_map}
use Rattle.protector_meta.proofs.FourWords.{four}
use Rattle.protector_meta.proofs.policy_reading.four_words.Goals as goal

pub returns : goal.returns
returns c =
    four _ _ _ _ _ (sym c.word_count.ensures ∙ c.if-word_count-ne4.false)
    (sym c.nth_word.ensures ∙ ap (option_map (λ word. word.now)) c.in_ok-nth_word.was)
    (sym c.nth_word-2.ensures ∙ ap (option_map (λ word. word.now)) c.in_ok-nth_word-2.was)
    (sym c.nth_word-3.ensures ∙ ap (option_map (λ word. word.now)) c.in_ok-nth_word-3.was)
    (sym c.nth_word-4.ensures ∙ ap (option_map (λ word. word.now)) c.in_ok-nth_word-4.was)
