-- Each block is a copy of the block of zeros.
use Rattle.argon_kdf.specs.Blocks.{zero_block}
use Rattle.argon_kdf.proofs.CopyLemmas.{copied}
use Rattle.argon_kdf.proofs.wiping.wipe_blocks.Goals as goal

pub returns : goal.returns
unfolding zero_block
returns c = c.fill.ensures.after (λ y h. copied y h)
