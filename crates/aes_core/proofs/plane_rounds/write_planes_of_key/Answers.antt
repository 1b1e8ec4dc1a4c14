-- Each plane in its place.
use Rattle.std.proofs.Common.{◌≡◌, ℕ, List, ap, ◌∙◌, arith}
use Rattle.std.specs.Int.{bit_at}
use Rattle.byte_words.specs.Blocks.{first_blocks}
use Rattle.byte_words.proofs.InPlace.{none_in_place, all_in_place}
use Rattle.aes_core.specs.Planes.{plane}
use Rattle.aes_core.specs.KeyPlanes.{planes_of_key}
use Rattle.aes_core.proofs.KeyPlaneLemmas.{length-plane}
use Rattle.aes_core.proofs.PreparedKeys.{key_written}
use Rattle.aes_core.proofs.plane_rounds.write_planes_of_key.Goals as goal

abbrev of_bit : List ℕ → ℕ → List ℕ
of_bit key k = plane (λ x. bit_at x k) (λ _. key)

pub bits-init : goal.bits-init
bits-init c = none_in_place 16 (of_bit c.args.key) c.args.part.now

pub bits-preserved : goal.bits-preserved
bits-preserved c = key_written (of_bit c.args.key) c.bits.bit _ c.bits.part c.args.part.now _ (λ k. length-plane c.args.key k) (omega arith) (omega arith) c.bits.invariant c.key_plane.ensures

pub returns : goal.returns
unfolding planes_of_key
returns c =
    let done : c.bits.bit ≡ 8 = omega arith in
    all_in_place 16 (of_bit c.args.key) c.bits.bit c.bits.part c.args.part.now c.bits.invariant (omega arith) ∙ ap (λ n. first_blocks (of_bit c.args.key) n) done
