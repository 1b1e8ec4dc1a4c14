use Rattle.std.proofs.Common.{◌≡◌, ◌-◌, length, take}
use Rattle.fsc_commands.specs.Steps.{names_in}
use Rattle.fsc_commands.proofs.known_entries.last_names.Given as goal

-- the last names are before the entries that were looked at
abbrev pub invariant-entries : goal.invariant-entries
invariant-entries l = names_in l.told ≡ names_in (take (length l.told - l.k) l.told)
