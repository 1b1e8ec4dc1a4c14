use Rattle.std.proofs.Common.{sym, subst}
use Rattle.key_ring.specs.Modes.{ModeMap}
use Rattle.key_ring.specs.ModeUsers.{AreUsed}
use Rattle.key_ring.specs.KeptModes.{modes_of}
use Rattle.key_ring.proofs.ModeLemmas.{AreUsed-left_contents, AreUsed-left_names}
use Rattle.key_ring.proofs.mode_keys.ModeKeys.release.Goals as goal

pub invariant_of-self : goal.invariant_of-self
invariant_of-self c = subst (λ (those : ModeMap). AreUsed (record { contents = those; names = modes_of c.self.inside.names.entries })) (sym c.release_in.ensures)
    (AreUsed-left_contents (modes_of c.self.inside.contents.entries) (modes_of c.self.inside.names.entries) c.args.id.now c.self.invariant)

pub invariant_of-self-in-Names : goal.invariant_of-self-in-Names
invariant_of-self-in-Names c = subst (λ (those : ModeMap). AreUsed (record { contents = modes_of c.self.inside.contents.entries; names = those })) (sym c.release_in-in-Names.ensures)
    (AreUsed-left_names (modes_of c.self.inside.contents.entries) (modes_of c.self.inside.names.entries) c.args.id.now c.self.invariant)
