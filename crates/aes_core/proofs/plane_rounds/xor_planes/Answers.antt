-- Plane by plane.
use Rattle.std.proofs.Common.{[], ◌∷◌, get_or, ap}
use Rattle.aes_core.specs.Planes.{planes}
use Rattle.aes_core.proofs.PlaneLemmas.{xor_blocks}
use Rattle.aes_core.proofs.plane_rounds.xor_planes.Goals as goal

pub returns : goal.returns
unfolding planes
returns c s t sb tb left right = λ i.
    xor_blocks 0 s t _ _ _ sb tb c.xor.ensures (ap (λ q. get_or q 0 []) left) (ap (λ q. get_or q 0 []) right) i ∷
    xor_blocks 1 s t _ _ _ sb tb c.xor-2.ensures (ap (λ q. get_or q 1 []) left) (ap (λ q. get_or q 1 []) right) i ∷
    xor_blocks 2 s t _ _ _ sb tb c.xor-3.ensures (ap (λ q. get_or q 2 []) left) (ap (λ q. get_or q 2 []) right) i ∷
    xor_blocks 3 s t _ _ _ sb tb c.xor-4.ensures (ap (λ q. get_or q 3 []) left) (ap (λ q. get_or q 3 []) right) i ∷
    xor_blocks 4 s t _ _ _ sb tb c.xor-5.ensures (ap (λ q. get_or q 4 []) left) (ap (λ q. get_or q 4 []) right) i ∷
    xor_blocks 5 s t _ _ _ sb tb c.xor-6.ensures (ap (λ q. get_or q 5 []) left) (ap (λ q. get_or q 5 []) right) i ∷
    xor_blocks 6 s t _ _ _ sb tb c.xor-7.ensures (ap (λ q. get_or q 6 []) left) (ap (λ q. get_or q 6 []) right) i ∷
    xor_blocks 7 s t _ _ _ sb tb c.xor-8.ensures (ap (λ q. get_or q 7 []) left) (ap (λ q. get_or q 7 []) right) i ∷ []
