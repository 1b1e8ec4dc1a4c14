-- Three stages of four exchanges; at the end rows and columns are exchanged for each bit.
use Rattle.std.proofs.Common.{◌≡◌, [], ◌∷◌, get_or, ap}
use Rattle.aes_core.specs.Laws.{IsBlock}
use Rattle.aes_core.specs.Planes.{AllBits, packed, vector_of, square_of, lower_bits, upper_bits}
use Rattle.aes_core.proofs.SquareLemmas.{of_eight}
use Rattle.aes_core.proofs.BitLemmas.{lower-AllBits, upper-AllBits}
use Rattle.aes_core.proofs.transposition.transpose.Goals as goal

pub returns-clause-turned : goal.returns-clause-turned
unfolding packed vector_of square_of lower_bits upper_bits
returns-clause-turned c bit bits rows =
    let a0 : get_or c.args.rows 0 [] ≡ vector_of (bit 0) = ap (λ v. get_or v 0 []) rows in
    let a1 : get_or c.args.rows 1 [] ≡ vector_of (bit 1) = ap (λ v. get_or v 1 []) rows in
    let a2 : get_or c.args.rows 2 [] ≡ vector_of (bit 2) = ap (λ v. get_or v 2 []) rows in
    let a3 : get_or c.args.rows 3 [] ≡ vector_of (bit 3) = ap (λ v. get_or v 3 []) rows in
    let a4 : get_or c.args.rows 4 [] ≡ vector_of (bit 4) = ap (λ v. get_or v 4 []) rows in
    let a5 : get_or c.args.rows 5 [] ≡ vector_of (bit 5) = ap (λ v. get_or v 5 []) rows in
    let a6 : get_or c.args.rows 6 [] ≡ vector_of (bit 6) = ap (λ v. get_or v 6 []) rows in
    let a7 : get_or c.args.rows 7 [] ≡ vector_of (bit 7) = ap (λ v. get_or v 7 []) rows in
    let b0 = c.exchange_fours.ensures.lower (bit 0) (bit 4) (bits 0) (bits 4) a0 a4 in
    let b4 = c.exchange_fours.ensures.upper (bit 0) (bit 4) (bits 0) (bits 4) a0 a4 in
    let b0_bits : AllBits _ = lower-AllBits 4 (bit 0) (bit 4) (bits 0) (bits 4) in
    let b4_bits : AllBits _ = upper-AllBits 4 (bit 0) (bit 4) (bits 0) (bits 4) in
    let b1 = c.exchange_fours-2.ensures.lower (bit 1) (bit 5) (bits 1) (bits 5) a1 a5 in
    let b5 = c.exchange_fours-2.ensures.upper (bit 1) (bit 5) (bits 1) (bits 5) a1 a5 in
    let b1_bits : AllBits _ = lower-AllBits 4 (bit 1) (bit 5) (bits 1) (bits 5) in
    let b5_bits : AllBits _ = upper-AllBits 4 (bit 1) (bit 5) (bits 1) (bits 5) in
    let b2 = c.exchange_fours-3.ensures.lower (bit 2) (bit 6) (bits 2) (bits 6) a2 a6 in
    let b6 = c.exchange_fours-3.ensures.upper (bit 2) (bit 6) (bits 2) (bits 6) a2 a6 in
    let b2_bits : AllBits _ = lower-AllBits 4 (bit 2) (bit 6) (bits 2) (bits 6) in
    let b6_bits : AllBits _ = upper-AllBits 4 (bit 2) (bit 6) (bits 2) (bits 6) in
    let b3 = c.exchange_fours-4.ensures.lower (bit 3) (bit 7) (bits 3) (bits 7) a3 a7 in
    let b7 = c.exchange_fours-4.ensures.upper (bit 3) (bit 7) (bits 3) (bits 7) a3 a7 in
    let b3_bits : AllBits _ = lower-AllBits 4 (bit 3) (bit 7) (bits 3) (bits 7) in
    let b7_bits : AllBits _ = upper-AllBits 4 (bit 3) (bit 7) (bits 3) (bits 7) in
    let c0 = c.exchange_pairs.ensures.lower (lower_bits 4 (bit 0) (bit 4)) (lower_bits 4 (bit 2) (bit 6)) b0_bits b2_bits b0 b2 in
    let c2 = c.exchange_pairs.ensures.upper (lower_bits 4 (bit 0) (bit 4)) (lower_bits 4 (bit 2) (bit 6)) b0_bits b2_bits b0 b2 in
    let c0_bits : AllBits _ = lower-AllBits 2 (lower_bits 4 (bit 0) (bit 4)) (lower_bits 4 (bit 2) (bit 6)) b0_bits b2_bits in
    let c2_bits : AllBits _ = upper-AllBits 2 (lower_bits 4 (bit 0) (bit 4)) (lower_bits 4 (bit 2) (bit 6)) b0_bits b2_bits in
    let c1 = c.exchange_pairs-2.ensures.lower (lower_bits 4 (bit 1) (bit 5)) (lower_bits 4 (bit 3) (bit 7)) b1_bits b3_bits b1 b3 in
    let c3 = c.exchange_pairs-2.ensures.upper (lower_bits 4 (bit 1) (bit 5)) (lower_bits 4 (bit 3) (bit 7)) b1_bits b3_bits b1 b3 in
    let c1_bits : AllBits _ = lower-AllBits 2 (lower_bits 4 (bit 1) (bit 5)) (lower_bits 4 (bit 3) (bit 7)) b1_bits b3_bits in
    let c3_bits : AllBits _ = upper-AllBits 2 (lower_bits 4 (bit 1) (bit 5)) (lower_bits 4 (bit 3) (bit 7)) b1_bits b3_bits in
    let c4 = c.exchange_pairs-3.ensures.lower (upper_bits 4 (bit 0) (bit 4)) (upper_bits 4 (bit 2) (bit 6)) b4_bits b6_bits b4 b6 in
    let c6 = c.exchange_pairs-3.ensures.upper (upper_bits 4 (bit 0) (bit 4)) (upper_bits 4 (bit 2) (bit 6)) b4_bits b6_bits b4 b6 in
    let c4_bits : AllBits _ = lower-AllBits 2 (upper_bits 4 (bit 0) (bit 4)) (upper_bits 4 (bit 2) (bit 6)) b4_bits b6_bits in
    let c6_bits : AllBits _ = upper-AllBits 2 (upper_bits 4 (bit 0) (bit 4)) (upper_bits 4 (bit 2) (bit 6)) b4_bits b6_bits in
    let c5 = c.exchange_pairs-4.ensures.lower (upper_bits 4 (bit 1) (bit 5)) (upper_bits 4 (bit 3) (bit 7)) b5_bits b7_bits b5 b7 in
    let c7 = c.exchange_pairs-4.ensures.upper (upper_bits 4 (bit 1) (bit 5)) (upper_bits 4 (bit 3) (bit 7)) b5_bits b7_bits b5 b7 in
    let c5_bits : AllBits _ = lower-AllBits 2 (upper_bits 4 (bit 1) (bit 5)) (upper_bits 4 (bit 3) (bit 7)) b5_bits b7_bits in
    let c7_bits : AllBits _ = upper-AllBits 2 (upper_bits 4 (bit 1) (bit 5)) (upper_bits 4 (bit 3) (bit 7)) b5_bits b7_bits in
    let d0 = c.exchange_singles.ensures.lower (lower_bits 2 (lower_bits 4 (bit 0) (bit 4)) (lower_bits 4 (bit 2) (bit 6))) (lower_bits 2 (lower_bits 4 (bit 1) (bit 5)) (lower_bits 4 (bit 3) (bit 7))) c0_bits c1_bits c0 c1 in
    let d1 = c.exchange_singles.ensures.upper (lower_bits 2 (lower_bits 4 (bit 0) (bit 4)) (lower_bits 4 (bit 2) (bit 6))) (lower_bits 2 (lower_bits 4 (bit 1) (bit 5)) (lower_bits 4 (bit 3) (bit 7))) c0_bits c1_bits c0 c1 in
    let d2 = c.exchange_singles-2.ensures.lower (upper_bits 2 (lower_bits 4 (bit 0) (bit 4)) (lower_bits 4 (bit 2) (bit 6))) (upper_bits 2 (lower_bits 4 (bit 1) (bit 5)) (lower_bits 4 (bit 3) (bit 7))) c2_bits c3_bits c2 c3 in
    let d3 = c.exchange_singles-2.ensures.upper (upper_bits 2 (lower_bits 4 (bit 0) (bit 4)) (lower_bits 4 (bit 2) (bit 6))) (upper_bits 2 (lower_bits 4 (bit 1) (bit 5)) (lower_bits 4 (bit 3) (bit 7))) c2_bits c3_bits c2 c3 in
    let d4 = c.exchange_singles-3.ensures.lower (lower_bits 2 (upper_bits 4 (bit 0) (bit 4)) (upper_bits 4 (bit 2) (bit 6))) (lower_bits 2 (upper_bits 4 (bit 1) (bit 5)) (upper_bits 4 (bit 3) (bit 7))) c4_bits c5_bits c4 c5 in
    let d5 = c.exchange_singles-3.ensures.upper (lower_bits 2 (upper_bits 4 (bit 0) (bit 4)) (upper_bits 4 (bit 2) (bit 6))) (lower_bits 2 (upper_bits 4 (bit 1) (bit 5)) (upper_bits 4 (bit 3) (bit 7))) c4_bits c5_bits c4 c5 in
    let d6 = c.exchange_singles-4.ensures.lower (upper_bits 2 (upper_bits 4 (bit 0) (bit 4)) (upper_bits 4 (bit 2) (bit 6))) (upper_bits 2 (upper_bits 4 (bit 1) (bit 5)) (upper_bits 4 (bit 3) (bit 7))) c6_bits c7_bits c6 c7 in
    let d7 = c.exchange_singles-4.ensures.upper (upper_bits 2 (upper_bits 4 (bit 0) (bit 4)) (upper_bits 4 (bit 2) (bit 6))) (upper_bits 2 (upper_bits 4 (bit 1) (bit 5)) (upper_bits 4 (bit 3) (bit 7))) c6_bits c7_bits c6 c7 in
    (λ i. d0 i ∷ d1 i ∷ d2 i ∷ d3 i ∷ d4 i ∷ d5 i ∷ d6 i ∷ d7 i ∷ [])

pub returns-clause-given : goal.returns-clause-given
returns-clause-given c = of_eight (λ r. IsBlock (get_or c.args.rows r [])) c.exchange_fours.ensures.given.0 c.exchange_fours-2.ensures.given.0 c.exchange_fours-3.ensures.given.0 c.exchange_fours-4.ensures.given.0
    c.exchange_fours.ensures.given.1 c.exchange_fours-2.ensures.given.1 c.exchange_fours-3.ensures.given.1 c.exchange_fours-4.ensures.given.1
