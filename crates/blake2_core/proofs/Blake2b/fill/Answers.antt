use Rattle.std.proofs.Common.{◌≡◌, arith, length-append, refl}
use Rattle.blake2_core.proofs.Following.{Follows_full}
use Rattle.blake2_core.proofs.Blake2b.fill.Goals as goal

pub returns-clause-added : goal.returns-clause-added
returns-clause-added c = λ m n held.
    let kept = c.keep.ensures.added m n held in
    let full : c.keep.new.self.used ≡ 128 = omega (arith, held.counted, kept.counted, length-append m c.args.bytes.now) in
    Follows_full c.keep.new.self _ _ n kept (omega arith) full refl c.compress.ensures refl refl
