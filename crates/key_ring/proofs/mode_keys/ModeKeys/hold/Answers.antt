use Rattle.std.proofs.Common.{◌+◌, ◌<◌, ◌^◌, sym, subst}
use Rattle.key_ring.specs.Modes.{ModeMap, Modes}
use Rattle.key_ring.specs.ModeUsers.{AreUsed, users_of, with_users}
use Rattle.key_ring.specs.KeptModes.{modes_of}
use Rattle.key_ring.proofs.ModeLemmas.{AreUsed-held_contents, AreUsed-held_names}
use Rattle.key_ring.proofs.RingLemmas.{by_either}
use Rattle.key_ring.proofs.mode_keys.ModeKeys.hold.Goals as goal

pub invariant_of-self : goal.invariant_of-self
invariant_of-self c =
    let room = subst (λ (m : Modes). users_of m c.args.id.now + c.args.users < 2 ^ 32) (sym c.self.view_is) c.requires.fit in
    by_either (λ (those : ModeMap). AreUsed (record { contents = those; names = modes_of c.self.inside.names.entries })) c.hold_in.result (modes_of c.hold_in.new.modes.entries)
    (with_users (modes_of c.self.inside.contents.entries) c.args.id.now c.args.key c.args.users) (modes_of c.self.inside.contents.entries) c.hold_in.ensures.held c.hold_in.ensures.kept
    (AreUsed-held_contents (modes_of c.self.inside.contents.entries) (modes_of c.self.inside.names.entries) c.args.id.now c.args.key c.args.users c.self.invariant c.requires.some room)
    c.self.invariant

pub invariant_of-self-in-Names : goal.invariant_of-self-in-Names
invariant_of-self-in-Names c =
    let room = subst (λ (m : Modes). users_of m c.args.id.now + c.args.users < 2 ^ 32) (sym c.self.view_is) c.requires.fit in
    by_either (λ (those : ModeMap). AreUsed (record { contents = modes_of c.self.inside.contents.entries; names = those })) c.hold_in-in-Names.result (modes_of c.hold_in-in-Names.new.modes.entries)
    (with_users (modes_of c.self.inside.names.entries) c.args.id.now c.args.key c.args.users) (modes_of c.self.inside.names.entries) c.hold_in-in-Names.ensures.held c.hold_in-in-Names.ensures.kept
    (AreUsed-held_names (modes_of c.self.inside.contents.entries) (modes_of c.self.inside.names.entries) c.args.id.now c.args.key c.args.users c.self.invariant c.requires.some room)
    c.self.invariant
