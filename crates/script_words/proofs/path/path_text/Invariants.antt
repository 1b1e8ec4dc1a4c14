use Rattle.std.proofs.Common.{◌≡◌, take, string_bytes}
use Rattle.script_words.specs.PathText.{parts_text}
use Rattle.script_words.proofs.path.path_text.Given as goal

-- the parts so far are written
abbrev pub invariant-parts : goal.invariant-parts
invariant-parts l = string_bytes l.text ≡ parts_text (take l.part-index l.parts)
