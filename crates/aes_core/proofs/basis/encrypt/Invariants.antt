-- The state is that after as many rounds as are done.
use Rattle.std.proofs.Common.{◌≡◌, ◌%◌}
use Rattle.aes_core.specs.Aes.{state_after}
use Rattle.aes_core.specs.Basis.{forward_state}
use Rattle.aes_core.proofs.basis.encrypt.Given as goal

abbrev pub invariant-rounds : goal.invariant-rounds
invariant-rounds l = l.state ≡ forward_state (l.done % 4) (state_after l.fn.keys l.fn.block l.done)
