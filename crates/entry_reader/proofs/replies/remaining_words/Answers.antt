use Rattle.std.proofs.Common.{ℕ, List, ◌∙◌, ap, ap₂, sym}
use Rattle.std.specs.Option.{option_map}
use Rattle.entry_reader.proofs.LoopLemmas.{left_more, left_fewer, left_none}
use Rattle.entry_reader.proofs.replies.remaining_words.Goals as goal

abbrev pair : List (List ℕ) → List (List ℕ) → List (List ℕ) × List (List ℕ)
pair names words = (names, words)

pub words-preserved : goal.words-preserved
words-preserved c =
    let here = sym c.next.ensures.word ∙ ap (option_map (λ w. w.now)) c.in-Some.is in
    rw (c.in_ok-push.ensures.appended, c.in_ok-name.ensures, c.next.ensures.left)
    (left_more c.words.names c.words.words c.in-Some.word.now _ here c.words.invariant)

pub words-smaller : goal.words-smaller
words-smaller c =
    let here = sym c.next.ensures.word ∙ ap (option_map (λ w. w.now)) c.in-Some.is in
    rw c.next.ensures.left (left_fewer c.words.words c.in-Some.word.now here)

pub returns : goal.returns
returns c =
    let past = sym c.next.ensures.word ∙ ap (option_map (λ w. w.now)) c.in_default.is in
    let end = left_none c.words.names c.words.words _ past c.words.invariant in
    ap₂ pair (sym end.0) (sym (c.next.ensures.left ∙ end.1))
