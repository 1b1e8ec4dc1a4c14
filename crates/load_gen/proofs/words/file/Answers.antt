use Rattle.std.proofs.Common.{refl}
use Rattle.load_gen.proofs.PathLemmas.{path_of-file}
use Rattle.load_gen.proofs.words.file.Goals as goal

pub path-requires : goal.path-requires
path-requires c = rw (path_of-file c.args.caller c.args.digit c.requires.caller c.requires.digit) refl

pub returns : goal.returns
returns c = cc (path_of-file c.args.caller c.args.digit c.requires.caller c.requires.digit, c.in_ok-path.ensures)
