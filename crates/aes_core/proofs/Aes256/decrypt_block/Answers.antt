-- The schedule is that of the key, and so are the prepared keys.
use Rattle.std.proofs.Common.{ap, ◌∙◌}
use Rattle.aes_core.specs.Aes.{decrypted_with, decrypted_block}
use Rattle.aes_core.proofs.Aes256.decrypt_block.Goals as goal

pub decrypt-requires : goal.decrypt-requires
decrypt-requires c = c.self.invariant.2

pub returns : goal.returns
unfolding decrypted_block
returns c = c.decrypt.ensures ∙ ap (λ w. decrypted_with w c.args.block) c.self.invariant.0 ∙ ap (λ key. decrypted_block key c.args.block) c.self.view_is
