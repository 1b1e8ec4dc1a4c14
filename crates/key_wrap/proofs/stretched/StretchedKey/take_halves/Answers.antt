-- The second half ends with the key.
use Rattle.std.proofs.Common.{drop, ◌∙◌, arith, length-drop}
use Rattle.std.proofs.lemmas.List.{take_all}
use Rattle.key_wrap.proofs.stretched.StretchedKey.take_halves.Goals as goal

pub returns-clause-tag_key : goal.returns-clause-tag_key
returns-clause-tag_key c =
    c.copy_from_slice.ensures.after ∙ take_all 32 (drop 32 c.args.stretched.now) (omega (arith, length-drop 32 c.args.stretched.now))
