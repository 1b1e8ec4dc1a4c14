use Rattle.std.proofs.Common.{refl}
use Rattle.argon_kdf.specs.Blocks.{zero_block}
use Rattle.argon_kdf.specs.References.{address_block}
use Rattle.argon_kdf.proofs.reference.write_addresses.Goals as goal

pub returns : goal.returns
unfolding address_block zero_block
returns c = rw (c.join-2.ensures, c.join.ensures, c.address_input-inner.ensures) refl
