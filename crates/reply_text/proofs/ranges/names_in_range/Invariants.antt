use Rattle.std.proofs.Common.{ℕ, ◌<◌, List, get_or}
use Rattle.hex.specs.Hex.{IsBytes}
use Rattle.reply_text.proofs.ranges.names_in_range.Given as goal

-- the names so far are of bytes
abbrev pub invariant-names : goal.invariant-names
invariant-names l = (k : ℕ) (d : List ℕ) → k < l.number → IsBytes (get_or l.names k d)
