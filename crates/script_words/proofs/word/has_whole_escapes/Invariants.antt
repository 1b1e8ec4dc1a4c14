use Rattle.std.proofs.Common.{◌≡◌, length}
use Rattle.script_words.specs.Word as spec
use Rattle.script_words.proofs.word.has_whole_escapes.Given as goal

-- what is left decides
abbrev pub invariant-characters : goal.invariant-characters
invariant-characters l = spec.has_whole_escapes l.rest ≡ spec.has_whole_escapes l.text

abbrev pub decreases-characters : goal.decreases-characters
decreases-characters l = length l.rest
