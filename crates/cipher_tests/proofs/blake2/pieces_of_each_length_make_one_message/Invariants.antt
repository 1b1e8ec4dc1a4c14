use Rattle.std.proofs.Common.{◌≡◌}
use Rattle.blake2_core.specs.Hasher.{output_length}
use Rattle.cipher_tests.proofs.blake2.pieces_of_each_length_make_one_message.Given as goal

abbrev pub invariant-loop-len : goal.invariant-loop-len
invariant-loop-len g l = output_length l.hasher ≡ 64
