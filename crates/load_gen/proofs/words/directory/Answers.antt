use Rattle.std.proofs.Common.{refl}
use Rattle.load_gen.proofs.PathLemmas.{path_of-directory}
use Rattle.load_gen.proofs.words.directory.Goals as goal

pub path-requires : goal.path-requires
path-requires c = rw (path_of-directory c.args.caller c.requires) refl

pub returns : goal.returns
returns c = cc (path_of-directory c.args.caller c.requires, c.in_ok-path.ensures)
