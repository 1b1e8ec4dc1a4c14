-- The halves of the stretched key.
use Rattle.std.proofs.Common.{drop, take, ap, ◌∙◌}
use Rattle.key_wrap.specs.Wrapping.{cipher_key, tag_key}
use Rattle.key_wrap.proofs.stretched.StretchedKey.set.Goals as goal

pub returns-clause-cipher : goal.returns-clause-cipher
unfolding cipher_key
returns-clause-cipher c = c.take_halves.ensures.cipher ∙ ap (λ s. take 32 s) c.stretch.ensures

pub returns-clause-tag_key : goal.returns-clause-tag_key
unfolding tag_key
returns-clause-tag_key c = c.take_halves.ensures.tag_key ∙ ap (λ s. drop 32 s) c.stretch.ensures
