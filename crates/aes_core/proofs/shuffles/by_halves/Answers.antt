-- Each half of a byte is a place.
use Rattle.std.proofs.Common.{refl, ◌∙◌}
use Rattle.std.specs.Prelude.{bit_xor}
use Rattle.std.proofs.lemmas.Simd.{zip2_of_maps}
use Rattle.byte_words.specs.Tables.{all_from}
use Rattle.aes_core.specs.Shuffles.{found_in, half_bytes, low_half, high_half}
use Rattle.aes_core.proofs.ShuffleLemmas.{lanes_place, then_map}
use Rattle.aes_core.proofs.shuffles.by_halves.Goals as goal

pub found-requires : goal.found-requires
unfolding all_from low_half
found-requires c = lanes_place low_half c.args.bytes c.low_halves.result c.fits-bytes.1 refl c.low_halves.ensures

pub found-requires-2 : goal.found-requires-2
unfolding all_from high_half
found-requires-2 c = lanes_place high_half c.args.bytes c.high_halves.result c.fits-bytes.1 refl c.high_halves.ensures

pub returns : goal.returns
unfolding half_bytes
returns c =
    let low = then_map (found_in c.args.low) low_half c.args.bytes c.low_halves.result c.found.result c.low_halves.ensures c.found.ensures in
    let high = then_map (found_in c.args.high) high_half c.args.bytes c.high_halves.result c.found-2.result c.high_halves.ensures c.found-2.ensures in
    c.xor.ensures ∙ zip2_of_maps bit_xor (λ b. found_in c.args.low (low_half b)) (λ b. found_in c.args.high (high_half b)) c.args.bytes low high
