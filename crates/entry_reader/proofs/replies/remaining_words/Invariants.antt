use Rattle.std.proofs.Common.{◌≡◌, ◌++◌, length, map}
use Rattle.percent_encoding.specs.Percent.{percent_decode}
use Rattle.entry_reader.proofs.replies.remaining_words.Given as goal

-- the names so far, and those of the words that are left
abbrev pub invariant-words : goal.invariant-words
invariant-words l = l.names ++ map percent_decode l.words ≡ map percent_decode l.fn.words

abbrev pub decreases-words : goal.decreases-words
decreases-words l = length l.words
