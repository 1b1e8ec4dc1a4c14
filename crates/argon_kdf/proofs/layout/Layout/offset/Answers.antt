use Rattle.argon_kdf.proofs.Ranges.{offset_within}
use Rattle.argon_kdf.proofs.layout.Layout.offset.Goals as goal

pub returns-clause-within : goal.returns-clause-within
returns-clause-within c =
    rw c.columns.ensures (offset_within c.args.self.lanes c.args.lane c.args.self.width c.args.column c.requires.lane c.requires.column)
