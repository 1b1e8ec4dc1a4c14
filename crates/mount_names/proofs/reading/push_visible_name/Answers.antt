use Rattle.std.proofs.Common.{rules}
use Rattle.mount_names.proofs.reading.push_visible_name.Goals as goal

pub returns-in-Locked : goal.returns-in-Locked
returns-in-Locked g c = search rules
