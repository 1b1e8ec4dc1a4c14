-- Plane by plane.
use Rattle.std.proofs.Common.{[], ◌∷◌, get_or, ap}
use Rattle.aes_core.specs.Planes.{planes}
use Rattle.aes_core.proofs.PlaneSteps.{next_row_of_plane}
use Rattle.aes_core.proofs.plane_rounds.next_plane_rows.Goals as goal

pub returns : goal.returns
unfolding planes
returns c s is = λ i.
    next_row_of_plane c.args.deferred 0 s _ _ c.requires (ap (λ q. get_or q 0 []) is) c.next_unshifted_row.ensures i ∷
    next_row_of_plane c.args.deferred 1 s _ _ c.requires (ap (λ q. get_or q 1 []) is) c.next_unshifted_row-2.ensures i ∷
    next_row_of_plane c.args.deferred 2 s _ _ c.requires (ap (λ q. get_or q 2 []) is) c.next_unshifted_row-3.ensures i ∷
    next_row_of_plane c.args.deferred 3 s _ _ c.requires (ap (λ q. get_or q 3 []) is) c.next_unshifted_row-4.ensures i ∷
    next_row_of_plane c.args.deferred 4 s _ _ c.requires (ap (λ q. get_or q 4 []) is) c.next_unshifted_row-5.ensures i ∷
    next_row_of_plane c.args.deferred 5 s _ _ c.requires (ap (λ q. get_or q 5 []) is) c.next_unshifted_row-6.ensures i ∷
    next_row_of_plane c.args.deferred 6 s _ _ c.requires (ap (λ q. get_or q 6 []) is) c.next_unshifted_row-7.ensures i ∷
    next_row_of_plane c.args.deferred 7 s _ _ c.requires (ap (λ q. get_or q 7 []) is) c.next_unshifted_row-8.ensures i ∷ []
