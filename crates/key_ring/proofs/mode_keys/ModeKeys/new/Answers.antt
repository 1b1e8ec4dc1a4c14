use Rattle.std.proofs.Common.{[], sym, subst}
use Rattle.key_ring.specs.ModeUsers.{AreUsed}
use Rattle.key_ring.specs.KeptModes.{modes_of}
use Rattle.key_ring.proofs.ModeLemmas.{AreUsed-none}
use Rattle.key_ring.proofs.mode_keys.ModeKeys.new.Goals as goal

pub invariant_of-result : goal.invariant_of-result
invariant_of-result c =
    subst (λ es. AreUsed (record { contents = modes_of es; names = modes_of c.new-2.result.entries })) (sym c.new.ensures.empty)
    (subst (λ es. AreUsed (record { contents = modes_of []; names = modes_of es })) (sym c.new-2.ensures.empty) AreUsed-none)
