use Rattle.std.proofs.Common.{◌≡◌}
use Rattle.blake2_core.specs.Hasher.{output_length}
use Rattle.cipher_tests.proofs.blake2.digests_of_the_self_test.Given as goal

abbrev pub invariant-loop-size : goal.invariant-loop-size
invariant-loop-size g l = output_length l.all ≡ 32

abbrev pub invariant-loop-len : goal.invariant-loop-len
invariant-loop-len g l = output_length l.all ≡ 32
