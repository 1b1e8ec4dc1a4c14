-- The eight planes of the key are those that were written.
use Rattle.std.proofs.Common.{ℕ, List, [], ◌∷◌, ◌+◌, ◌%◌, ◌∙◌, arith}
use Rattle.aes_core.specs.Lanes.{round_key}
use Rattle.aes_core.specs.KeyPlanes.{common_key}
use Rattle.aes_core.specs.Planes.{planes}
use Rattle.aes_core.proofs.KeyPlaneLemmas.{plane_read, common_key-IsBlock}
use Rattle.aes_core.proofs.PlaneSteps.{round_key-IsBlock}
use Rattle.aes_core.proofs.plane_rounds.add_plane_key.Goals as goal

pub returns : goal.returns
unfolding planes
returns c w s bytes blocks keys is =
    let n : ℕ = c.args.n in
    let key : List ℕ = common_key (n % 4) (round_key w (n + 1)) in
    c.xor_planes.ensures s (λ _. key) blocks (λ _. common_key-IsBlock (n % 4) (round_key w (n + 1)) (round_key-IsBlock w (n + 1) bytes)) is
    (λ i. (c.stored_plane.ensures ∙ plane_read w c.args.keys.now n 0 _ (omega arith) (omega arith) (omega arith) keys) i ∷
    (c.stored_plane-2.ensures ∙ plane_read w c.args.keys.now n 1 _ (omega arith) (omega arith) (omega arith) keys) i ∷
    (c.stored_plane-3.ensures ∙ plane_read w c.args.keys.now n 2 _ (omega arith) (omega arith) (omega arith) keys) i ∷
    (c.stored_plane-4.ensures ∙ plane_read w c.args.keys.now n 3 _ (omega arith) (omega arith) (omega arith) keys) i ∷
    (c.stored_plane-5.ensures ∙ plane_read w c.args.keys.now n 4 _ (omega arith) (omega arith) (omega arith) keys) i ∷
    (c.stored_plane-6.ensures ∙ plane_read w c.args.keys.now n 5 _ (omega arith) (omega arith) (omega arith) keys) i ∷
    (c.stored_plane-7.ensures ∙ plane_read w c.args.keys.now n 6 _ (omega arith) (omega arith) (omega arith) keys) i ∷
    (c.stored_plane-8.ensures ∙ plane_read w c.args.keys.now n 7 _ (omega arith) (omega arith) (omega arith) keys) i ∷ [])
