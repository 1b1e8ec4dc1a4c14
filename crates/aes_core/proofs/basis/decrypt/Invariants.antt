-- The state is that after as many rounds as are undone.
use Rattle.std.proofs.Common.{◌≡◌, ◌%◌}
use Rattle.aes_core.specs.Basis.{inverse_state}
use Rattle.aes_core.proofs.UndoneLemmas.{undone_after}
use Rattle.aes_core.proofs.basis.decrypt.Given as goal

abbrev pub invariant-rounds : goal.invariant-rounds
invariant-rounds l = l.state ≡ inverse_state (l.done % 4) (undone_after l.fn.keys l.fn.block l.done)
