-- The groups so far are those of the key's schedule.
use Rattle.std.proofs.Common.{◌≡◌, ◌+◌, ◌*◌, length}
use Rattle.aes_core.specs.Groups.{HoldsGroups}
use Rattle.aes_core.proofs.key_schedule.write_round_keys.Given as goal

abbrev pub invariant-pairs : goal.invariant-pairs
invariant-pairs l = (length l.keys ≡ 240) × HoldsGroups l.keys l.fn.key (2 * l.pair + 1)
