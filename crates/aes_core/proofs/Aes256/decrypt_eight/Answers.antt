-- The schedule is that of the key.
use Rattle.std.proofs.Common.{[], get_or, ap, sym, ◌∙◌}
use Rattle.aes_core.specs.Aes.{decrypted_with, decrypted_block}
use Rattle.aes_core.specs.RoundKeys.{round_keys}
use Rattle.aes_core.specs.KeyPlanes.{key_planes}
use Rattle.aes_core.proofs.Aes256.decrypt_eight.Goals as goal

pub decrypt_eight-decrypted-requires : goal.decrypt_eight-decrypted-requires
decrypt_eight-decrypted-requires c = c.write_key_planes.ensures ∙ ap key_planes (sym (c.self.invariant.0 ∙ ap round_keys c.self.view_is))

pub returns : goal.returns
unfolding decrypted_block
returns c b low =
    c.decrypt_eight-decrypted.ensures b low ∙ ap (λ w. decrypted_with w (get_or c.args.blocks b [])) c.self.invariant.0 ∙ ap (λ key. decrypted_block key (get_or c.args.blocks b [])) c.self.view_is
