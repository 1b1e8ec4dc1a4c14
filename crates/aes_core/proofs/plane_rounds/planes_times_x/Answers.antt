-- Each plane of the product is the plane below it, xored with the highest plane if the polynomial has
-- that term.
use Rattle.std.proofs.Common.{[], ◌∷◌, get_or, ap, refl}
use Rattle.byte_words.specs.Tables.{all_from}
use Rattle.aes_core.specs.Field.{times_x}
use Rattle.aes_core.specs.Planes.{planes}
use Rattle.aes_core.proofs.PlaneSteps.{moved, reduced}
use Rattle.aes_core.proofs.plane_rounds.planes_times_x.Goals as goal

pub returns : goal.returns
unfolding planes all_from times_x
returns c s blocks is = λ i.
    moved 7 0 s _ blocks refl (ap (λ q. get_or q 7 []) is) i ∷
    reduced 0 1 s _ _ _ blocks refl c.xor.ensures (ap (λ q. get_or q 0 []) is) (ap (λ q. get_or q 7 []) is) i ∷
    moved 1 2 s _ blocks refl (ap (λ q. get_or q 1 []) is) i ∷
    reduced 2 3 s _ _ _ blocks refl c.xor-2.ensures (ap (λ q. get_or q 2 []) is) (ap (λ q. get_or q 7 []) is) i ∷
    reduced 3 4 s _ _ _ blocks refl c.xor-3.ensures (ap (λ q. get_or q 3 []) is) (ap (λ q. get_or q 7 []) is) i ∷
    moved 4 5 s _ blocks refl (ap (λ q. get_or q 4 []) is) i ∷
    moved 5 6 s _ blocks refl (ap (λ q. get_or q 5 []) is) i ∷
    moved 6 7 s _ blocks refl (ap (λ q. get_or q 6 []) is) i ∷ []
