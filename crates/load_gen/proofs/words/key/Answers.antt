use Rattle.std.proofs.Common.{rules}
use Rattle.load_gen.specs.Words.{key}
use Rattle.load_gen.proofs.words.key.Goals as goal

pub returns : goal.returns
unfolding key
returns c = search rules
