use Rattle.text_words.specs.Lines.{is_line_feed}
use Rattle.text_words.proofs.LineLemmas.{pieces_first, pieces_none, whole_first}
use Rattle.text_words.proofs.lines.next_line.Goals as goal

pub returns-then-end-text-clause-pieces : goal.returns-then-end-text-clause-pieces
returns-then-end-text-clause-pieces c =
    pieces_first is_line_feed c.args.text.now c.line_end-end.result c.line_end-end.ensures c.if-end-text.true

pub returns-else-end-text-clause-pieces : goal.returns-else-end-text-clause-pieces
returns-else-end-text-clause-pieces c =
    pieces_none is_line_feed c.args.text.now c.line_end-end.result c.line_end-end.ensures c.if-end-text.false

pub returns-then-end-text-clause-whole : goal.returns-then-end-text-clause-whole
returns-then-end-text-clause-whole c =
    whole_first c.args.text.now c.line_end-end.result c.line_end-end.ensures c.if-end-text.true
