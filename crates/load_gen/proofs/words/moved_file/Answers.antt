use Rattle.std.proofs.Common.{refl}
use Rattle.load_gen.proofs.PathLemmas.{path_of-moved_file}
use Rattle.load_gen.proofs.words.moved_file.Goals as goal

pub path-requires : goal.path-requires
path-requires c = rw (path_of-moved_file c.args.caller c.args.digit c.requires.caller c.requires.digit) refl

pub returns : goal.returns
returns c = cc (path_of-moved_file c.args.caller c.args.digit c.requires.caller c.requires.digit, c.in_ok-path.ensures)
