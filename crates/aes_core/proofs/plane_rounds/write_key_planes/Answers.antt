-- The planes of each key in their place.
use Rattle.std.proofs.Common.{◌≡◌, ℕ, ◌+◌, ◌%◌, List, refl, ap, ◌∙◌, arith}
use Rattle.byte_words.specs.Blocks.{first_blocks}
use Rattle.byte_words.proofs.InPlace.{none_in_place, write_in_place, all_in_place}
use Rattle.aes_core.specs.Lanes.{round_key}
use Rattle.aes_core.specs.KeyPlanes.{common_key, planes_of_key, key_planes}
use Rattle.aes_core.proofs.KeyPlaneLemmas.{length-planes_of_key}
use Rattle.aes_core.proofs.plane_rounds.write_key_planes.Goals as goal

abbrev of_round : List ℕ → ℕ → List ℕ
of_round keys n = planes_of_key (common_key (n % 4) (round_key keys (n + 1)))

pub rounds-init : goal.rounds-init
rounds-init c = none_in_place 128 (of_round c.args.keys.now) c.args.planes.now

pub rounds-preserved : goal.rounds-preserved
rounds-preserved c =
    write_in_place 128 (of_round c.args.keys.now) c.rounds.n _ _ c.rounds.planes c.args.planes.now _ (λ j. length-planes_of_key (common_key (j % 4) (round_key c.args.keys.now (j + 1)))) refl (omega arith)
    c.rounds.invariant (c.write_planes_of_key.ensures ∙ ap planes_of_key (c.common_key-key.ensures ∙ ap (λ k. common_key (c.rounds.n % 4) k) c.round_key.ensures))

pub returns : goal.returns
unfolding key_planes
returns c =
    let done : c.rounds.n ≡ 13 = omega arith in
    all_in_place 128 (of_round c.args.keys.now) c.rounds.n c.rounds.planes c.args.planes.now c.rounds.invariant (omega arith) ∙ ap (λ n. first_blocks (of_round c.args.keys.now) n) done
