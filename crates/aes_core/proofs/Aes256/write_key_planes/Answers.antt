-- The schedule is that of the key.
use Rattle.std.proofs.Common.{ap, ◌∙◌}
use Rattle.aes_core.specs.RoundKeys.{round_keys}
use Rattle.aes_core.specs.KeyPlanes.{key_planes}
use Rattle.aes_core.proofs.Aes256.write_key_planes.Goals as goal

pub returns : goal.returns
returns c = c.write_key_planes.ensures ∙ ap key_planes (c.self.invariant.0 ∙ ap round_keys c.self.view_is)
