use Rattle.std.proofs.Common.{sym, ap, ◌∙◌, []}
use Rattle.std.specs.Option.{option_map_or}
use Rattle.text_words.specs.Words.{words_of}
use Rattle.script_lang.proofs.WordsLemmas.{first_of, last_of}
use Rattle.script_lang.proofs.words.Words.next.Goals as goal

pub returns-then-end-text-clause-word : goal.returns-then-end-text-clause-word
returns-then-end-text-clause-word c =
    (first_of c.in_ok-text.text.now c.args.self.now c.place_of-end.result (sym c.self.view_is ∙ ap (λ r. option_map_or (λ t. words_of t.now) r []) c.in_ok-text.was) c.place_of-end.ensures c.if-end-text.true).0

pub returns-then-end-text-clause-left : goal.returns-then-end-text-clause-left
returns-then-end-text-clause-left c =
    (first_of c.in_ok-text.text.now c.args.self.now c.place_of-end.result (sym c.self.view_is ∙ ap (λ r. option_map_or (λ t. words_of t.now) r []) c.in_ok-text.was) c.place_of-end.ensures c.if-end-text.true).1

pub returns-else-end-text-clause-word : goal.returns-else-end-text-clause-word
returns-else-end-text-clause-word c =
    (last_of c.in_ok-text.text.now c.args.self.now c.place_of-end.result (sym c.self.view_is ∙ ap (λ r. option_map_or (λ t. words_of t.now) r []) c.in_ok-text.was) c.place_of-end.ensures c.if-end-text.false).0

pub returns-else-end-text-clause-left : goal.returns-else-end-text-clause-left
returns-else-end-text-clause-left c =
    (last_of c.in_ok-text.text.now c.args.self.now c.place_of-end.result (sym c.self.view_is ∙ ap (λ r. option_map_or (λ t. words_of t.now) r []) c.in_ok-text.was) c.place_of-end.ensures c.if-end-text.false).1
