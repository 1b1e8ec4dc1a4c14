-- The schedule is that of the key.
use Rattle.std.proofs.Common.{[], get_or, ap, sym, ◌∙◌}
use Rattle.aes_core.specs.Aes.{encrypted_with, encrypted_block}
use Rattle.aes_core.specs.RoundKeys.{round_keys}
use Rattle.aes_core.specs.KeyPlanes.{key_planes}
use Rattle.aes_core.proofs.Aes256.encrypt_eight_with.Goals as goal

pub encrypt_eight-requires : goal.encrypt_eight-requires
encrypt_eight-requires c = c.requires ∙ ap key_planes (sym (c.self.invariant.0 ∙ ap round_keys c.self.view_is))

pub returns : goal.returns
unfolding encrypted_block
returns c b low =
    c.encrypt_eight.ensures b low ∙ ap (λ w. encrypted_with w (get_or c.args.blocks b [])) c.self.invariant.0 ∙ ap (λ key. encrypted_block key (get_or c.args.blocks b [])) c.self.view_is
