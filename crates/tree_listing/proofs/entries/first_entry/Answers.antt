use Rattle.std.proofs.Common.{sym}
use Rattle.image_lines.proofs.NodeLemmas.{end_of_record}
use Rattle.tree_listing.proofs.EntryLemmas.{one_entry, no_entry, shorter_behind, rest_behind}
use Rattle.tree_listing.proofs.entries.first_entry.Goals as goal

pub returns-in-Some-clause-entries : goal.returns-in-Some-clause-entries
returns-in-Some-clause-entries c =
    one_entry c.args.lines.now c.next_line-line.result.bytes.now c.next_line-line.result.rest.now c.next_line-line.result.ended _ c.next_line-line.ensures.pieces
    (end_of_record c.next_line-line.result.ended c.args.lines.now c.next_line-line.result.rest.now c.next_line-line.ensures.ended c.next_line-line.ensures.rest)
    (sym c.in-Some.ensures)

pub returns-in-Some-clause-shorter : goal.returns-in-Some-clause-shorter
returns-in-Some-clause-shorter c =
    shorter_behind c.args.lines.now c.next_line-line.result.bytes.now c.next_line-line.result.rest.now c.next_line-line.result.ended _ c.next_line-line.ensures.whole
    (end_of_record c.next_line-line.result.ended c.args.lines.now c.next_line-line.result.rest.now c.next_line-line.ensures.ended c.next_line-line.ensures.rest)
    (sym c.in-Some.ensures)

pub returns-in-Some-clause-rest : goal.returns-in-Some-clause-rest
returns-in-Some-clause-rest c = λ text end within.
    rest_behind text c.args.lines.now c.next_line-line.result.bytes.now c.next_line-line.result.rest.now c.next_line-line.result.ended c.next_line-line.ensures.whole
    (end_of_record c.next_line-line.result.ended c.args.lines.now c.next_line-line.result.rest.now c.next_line-line.ensures.ended c.next_line-line.ensures.rest)
    end within

pub returns-in-None-clause-entries : goal.returns-in-None-clause-entries
returns-in-None-clause-entries c =
    no_entry c.args.lines.now c.next_line-line.result.bytes.now _ c.next_line-line.ensures.pieces (sym c.in-None.ensures)
