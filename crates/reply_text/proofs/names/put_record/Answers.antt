use Rattle.std.proofs.Common.{append_assoc}
use Rattle.reply_text.proofs.NameLemmas.{escaped_record}
use Rattle.reply_text.proofs.names.put_record.Goals as goal

pub returns : goal.returns
returns c =
    rw (← escaped_record c.args.name.now, ← append_assoc c.args.text.now.items c.args.words.now, ← c.in_ok-extend_from_slice.ensures.items)
    c.put_escaped.ensures
