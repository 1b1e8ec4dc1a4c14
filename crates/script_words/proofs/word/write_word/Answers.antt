use Rattle.std.proofs.Common.{arith, ◌<◌, ◌∙◌, ap}
use Rattle.std.proofs.lemmas.List.Elements.{All-from_get_or}
use Rattle.script_words.specs.Word.{word_bytes}
use Rattle.script_words.proofs.EscapeLemmas.{word_bytes-word_text}
use Rattle.script_words.proofs.word.write_word.Goals as goal

pub returns-clause-reads_back : goal.returns-clause-reads_back
returns-clause-reads_back c some bounded =
    let ranged = All-from_get_or (λ b. b < 256) c.args.bytes.now 0 (λ i within. omega (arith, c.type_inv.bytes i)) in
    ap word_bytes (c.in_ok-append_word.ensures.appended ∙ rw c.new-text.ensures.bytes)
    ∙ word_bytes-word_text c.args.bytes.now (record { nonempty = some; bounded = bounded; ranged = ranged })
