use Rattle.std.proofs.Common.{◌≡◌, ◌++◌}
use Rattle.percent_encoding.specs.Iter.{encoded_text}
use Rattle.percent_encoding.specs.Percent.{percent_encode}
use Rattle.reply_text.proofs.names.put_escaped.Given as goal

-- what is written, with what is left to write
abbrev pub invariant-pieces : goal.invariant-pieces
invariant-pieces l = l.text.items ++ encoded_text l.piece-iterator ≡ l.fn.text.items ++ percent_encode l.fn.escaped l.bytes
