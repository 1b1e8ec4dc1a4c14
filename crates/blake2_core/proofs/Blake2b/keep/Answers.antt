use Rattle.std.proofs.Common.{arith, refl}
use Rattle.blake2_core.proofs.Following.{Follows_keep}
use Rattle.blake2_core.proofs.Blake2b.keep.Goals as goal

pub returns-clause-added : goal.returns-clause-added
returns-clause-added c = λ m n held.
    Follows_keep c.args.self.now _ m c.args.bytes.now _ n _ held (omega arith) (omega arith) refl refl refl refl c.copy_from_slice.ensures.after refl
