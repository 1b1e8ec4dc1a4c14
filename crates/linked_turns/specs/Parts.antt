-- Which calls of callers are on mount 0, and which on mount 1.
use Rattle.std.specs.Prelude.{◌≡◌, ⊤, ℕ, ◌%◌, ◌==◌, Bool, true, false, List, [], ◌∷◌, ◌++◌}
use Rattle.mount_model.specs.History.{MountEntry}
use Rattle.mount_model.specs.Port.{PlacedCalls}
use Rattle.mount_links.specs.declared.step.LinkStep.{LinkStep}
use Rattle.mount_links.specs.declared.step.LinkStep.TheVariants.{Alone}
use Rattle.mount_links.specs.Linked.{own_part, own_parts, far_part, far_parts}
use Rattle.mount_links.specs.LinkCalls.{AreSteps, IsStep, load_call}

-- a caller with an even number works on mount 0, any other on mount 1
abbrev pub is_even : ℕ → Bool
is_even caller = caller % 2 == 0

-- of these calls of a caller, with what became of each if it works on mount 1, these are on mount 0 and
-- those on mount 1. A caller that works on mount 0 has no call on mount 1
abbrev pub HasParts : Bool → List LinkStep → PlacedCalls → PlacedCalls → PlacedCalls → Type 0
HasParts true steps made even odd = (even ≡ made) × (odd ≡ [])
HasParts false steps made even odd =
    AreSteps steps made × (even ≡ far_parts steps made) × (odd ≡ own_parts load_call steps made)

-- ---- of all callers' calls, one after another

-- what became of a call: one on mount 0 went there as it is
abbrev pub IsLinkedStep : Bool → LinkStep → ℕ × MountEntry → Type 0
IsLinkedStep true step x = step ≡ Alone
IsLinkedStep false step x = IsStep step x

abbrev pub AreLinked : List LinkStep → PlacedCalls → Type 0
AreLinked [] [] = ⊤
AreLinked (step ∷ steps) (x ∷ xs) = IsLinkedStep (is_even x.1.who) step x × AreLinked steps xs
AreLinked steps xs = ⊥

-- what is on mount 0 of a call, by whether its caller works there
abbrev pub part_0 : Bool → LinkStep → ℕ × MountEntry → PlacedCalls
part_0 true step x = x ∷ []
part_0 false step x = far_part step x

-- and on mount 1
abbrev pub part_1 : Bool → LinkStep → ℕ × MountEntry → PlacedCalls
part_1 true step x = []
part_1 false step x = own_part load_call step x

-- of calls in their order, with what became of each
abbrev pub parts_0 : List LinkStep → PlacedCalls → PlacedCalls
parts_0 (step ∷ steps) (x ∷ xs) = part_0 (is_even x.1.who) step x ++ parts_0 steps xs
parts_0 steps xs = []

abbrev pub parts_1 : List LinkStep → PlacedCalls → PlacedCalls
parts_1 (step ∷ steps) (x ∷ xs) = part_1 (is_even x.1.who) step x ++ parts_1 steps xs
parts_1 steps xs = []
