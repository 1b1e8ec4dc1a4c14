use Rattle.std.proofs.Common.{refl}
use Rattle.argon_kdf.specs.Permutation.{mixed}
use Rattle.argon_kdf.proofs.block.mix.Goals as goal

pub returns : goal.returns
unfolding mixed
returns c =
    rw (
      c.rotate_right-b-2.ensures,
      c.multiply_add-c-2.ensures,
      c.rotate_right-d-2.ensures,
      c.multiply_add-a-2.ensures,
    )
    (rw (
      c.rotate_right-b.ensures,
      c.multiply_add-c.ensures,
      c.rotate_right-d.ensures,
      c.multiply_add-a.ensures,
    ) refl)
