-- Names are equal if their bytes are.
use Rattle.std.proofs.Common.{None}
use Rattle.meta_files.proofs.IndexLemmas.{index_updates}
use Rattle.meta_files.proofs.name_index.drop_name.Goals as goal

pub returns : goal.returns
returns c = index_updates c.args.index.now c.remove.new.self c.args.name.now None c.remove.ensures.updates
