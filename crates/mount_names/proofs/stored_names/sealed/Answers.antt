use Rattle.std.proofs.Common.{rules}
use Rattle.mount_names.proofs.stored_names.sealed.Goals as goal

pub returns-clause-value : goal.returns-clause-value
returns-clause-value g c = search rules
