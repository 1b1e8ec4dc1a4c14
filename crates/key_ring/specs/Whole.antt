-- That the named parts of a ring and of mode keys are all that they have: with a further part, these would
-- not hold.
use Rattle.std.specs.Prelude.{◌≡◌}
use Rattle.key_ring.specs.declared.ring.KeyRing.TheInside as ring
use Rattle.key_ring.specs.declared.mode_keys.ModeKeys.TheInside as modes

abbrev pub RingsAreTheirParts : Type 0
RingsAreTheirParts = (a b : ring.Inside) → a.claims ≡ b.claims → a.secrets ≡ b.secrets → a ≡ b

abbrev pub ModesAreTheirParts : Type 0
ModesAreTheirParts = (a b : modes.Inside) → a.contents ≡ b.contents → a.names ≡ b.names → a ≡ b
