-- The 16 bytes are those of the definition.
use Rattle.std.proofs.Common.{◌≡◌, ◌∷◌, [], ◌++◌, refl}
use lib.Lanes.{pick_l}
use Rattle.aes_core.specs.Lanes.{row_on}
use Rattle.aes_core.proofs.LaneLemmas.{of_sixteen}
use Rattle.aes_core.proofs.rounds.second_row_on.Goals as goal

pub returns : goal.returns
unfolding row_on
returns c = of_sixteen (λ s. pick_l 0 (s ++ s) (2 ∷ 3 ∷ 0 ∷ 1 ∷ 6 ∷ 7 ∷ 4 ∷ 5 ∷ 10 ∷ 11 ∷ 8 ∷ 9 ∷ 14 ∷ 15 ∷ 12 ∷ 13 ∷ []) ≡ row_on 2 s)
    (λ x0 x1 x2 x3 x4 x5 x6 x7 x8 x9 x10 x11 x12 x13 x14 x15. refl) c.args.state c.fits-state.0
