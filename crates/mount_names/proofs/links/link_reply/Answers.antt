use Rattle.std.proofs.Common.{rules}
use Rattle.mount_names.proofs.links.link_reply.Goals as goal

pub returns-in-Link-clause-told : goal.returns-in-Link-clause-told
returns-in-Link-clause-told g c = search rules
