use Rattle.std.proofs.Common.{◌≡◌, ◌++◌, take}
use Rattle.reply_text.specs.Names.{names_text}
use Rattle.reply_text.proofs.names.put_names.Given as goal

-- the names so far are written
abbrev pub invariant-names : goal.invariant-names
invariant-names l = l.text.items ≡ l.fn.text.items ++ names_text (take l.name-index l.names)
