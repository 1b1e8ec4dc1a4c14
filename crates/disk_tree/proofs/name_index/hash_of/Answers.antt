-- One write of all bytes.
use Rattle.std.proofs.Common.{rules}
use Rattle.disk_tree.specs.NameIndex.{hash_of}
use Rattle.disk_tree.proofs.name_index.hash_of.Goals as goal

pub returns : goal.returns
unfolding hash_of
returns c = search rules
