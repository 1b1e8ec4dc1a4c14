use Rattle.std.proofs.Common.{refl}
use Rattle.blake2_core.specs.Mixing.{mixed_round}
use Rattle.blake2_core.proofs.compression.mix_round.Goals as goal

pub returns : goal.returns
unfolding mixed_round
returns c =
    rw (c.mix-8.ensures, c.mix-7.ensures, c.mix-6.ensures, c.mix-5.ensures, c.mix-4.ensures, c.mix-3.ensures, c.mix-2.ensures, c.mix.ensures)
    (rw (c.word-16.ensures, c.word-15.ensures, c.word-14.ensures, c.word-13.ensures, c.word-12.ensures, c.word-11.ensures, c.word-10.ensures, c.word-9.ensures, c.word-8.ensures, c.word-7.ensures, c.word-6.ensures, c.word-5.ensures, c.word-4.ensures, c.word-3.ensures, c.word-2.ensures, c.word.ensures) refl)
