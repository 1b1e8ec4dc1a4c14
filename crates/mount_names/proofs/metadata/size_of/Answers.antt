use Rattle.std.proofs.Common.{rules}
use Rattle.mount_names.proofs.metadata.size_of.Goals as goal

pub returns-in-Link : goal.returns-in-Link
returns-in-Link g c = search rules
