use Rattle.std.proofs.Common.{◌∙◌, sym, ap}
use Rattle.std.specs.Option.{option_map}
use Rattle.text_words.proofs.PieceLemmas.{two}
use Rattle.text_words.proofs.words.two_words.Goals as goal

pub returns : goal.returns
returns c =
    two _ _ _ (sym c.word_count.ensures ∙ c.if-word_count-ne2.false)
    (sym c.nth_word.ensures ∙ ap (option_map (λ word. word.now)) c.in_ok-nth_word.was)
    (sym c.nth_word-2.ensures ∙ ap (option_map (λ word. word.now)) c.in_ok-nth_word-2.was)
