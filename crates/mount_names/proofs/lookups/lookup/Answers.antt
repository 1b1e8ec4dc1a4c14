use Rattle.std.proofs.Common.{rules}
use Rattle.mount_names.proofs.lookups.lookup.Goals as goal

pub returns-then-is_none-clause-value : goal.returns-then-is_none-clause-value
returns-then-is_none-clause-value g c = search rules
