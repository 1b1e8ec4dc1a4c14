use Rattle.byte_words.proofs.AreBytesLemmas.{AreBytes-take}
use Rattle.short_bytes.proofs.filled.Filled.bytes.Goals as goal

pub returns-clause-ranged : goal.returns-clause-ranged
returns-clause-ranged g c = AreBytes-take c.self.inside.len c.self.inside.places c.self.invariant.3
