-- The schedule is that of the key, and so are the prepared keys.
use Rattle.std.proofs.Common.{ap, ◌∙◌}
use Rattle.aes_core.specs.Aes.{encrypted_with, encrypted_block}
use Rattle.aes_core.proofs.Aes256.encrypt_block.Goals as goal

pub encrypt-requires : goal.encrypt-requires
encrypt-requires c = c.self.invariant.1

pub returns : goal.returns
unfolding encrypted_block
returns c = c.encrypt.ensures ∙ ap (λ w. encrypted_with w c.args.block) c.self.invariant.0 ∙ ap (λ key. encrypted_block key c.args.block) c.self.view_is
