-- The 16 bytes are those of the definition.
use Rattle.std.proofs.Common.{◌≡◌, ◌∷◌, [], ◌++◌, refl}
use lib.Lanes.{pick_l}
use Rattle.aes_core.specs.Groups.{last_column}
use Rattle.aes_core.proofs.LaneLemmas.{of_sixteen}
use Rattle.aes_core.proofs.key_schedule.last_column.Goals as goal

pub returns : goal.returns
unfolding last_column
returns c = of_sixteen (λ s. pick_l 0 (s ++ s) (12 ∷ 13 ∷ 14 ∷ 15 ∷ 12 ∷ 13 ∷ 14 ∷ 15 ∷ 12 ∷ 13 ∷ 14 ∷ 15 ∷ 12 ∷ 13 ∷ 14 ∷ 15 ∷ []) ≡ last_column s)
    (λ x0 x1 x2 x3 x4 x5 x6 x7 x8 x9 x10 x11 x12 x13 x14 x15. refl) c.args.words c.fits-words.0
