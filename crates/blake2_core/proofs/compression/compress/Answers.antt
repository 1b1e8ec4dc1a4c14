use Rattle.std.proofs.Common.{ℕ, List, ap, ◌∙◌, sym}
use Rattle.blake2_core.specs.Compression.{compressed, fold_halves, work_vector}
use Rattle.blake2_core.specs.Mixing.{rounds}
use Rattle.blake2_core.proofs.Rounds.{rounds_start, rounds_step}
use Rattle.blake2_core.proofs.compression.compress.Goals as goal

pub returns : goal.returns
unfolding compressed
returns c =
    let w : List ℕ = c.words_of-m.result in
    let v : List ℕ = work_vector c.args.state.now c.args.count c.args.last in
    let e0 = c.start-v.ensures ∙ sym (rounds_start w v) in
    let e1 = rounds_step w v _ _ 0 e0 c.mix_round-v.ensures in
    let e2 = rounds_step w v _ _ 1 e1 c.mix_round-v-2.ensures in
    let e3 = rounds_step w v _ _ 2 e2 c.mix_round-v-3.ensures in
    let e4 = rounds_step w v _ _ 3 e3 c.mix_round-v-4.ensures in
    let e5 = rounds_step w v _ _ 4 e4 c.mix_round-v-5.ensures in
    let e6 = rounds_step w v _ _ 5 e5 c.mix_round-v-6.ensures in
    let e7 = rounds_step w v _ _ 6 e6 c.mix_round-v-7.ensures in
    let e8 = rounds_step w v _ _ 7 e7 c.mix_round-v-8.ensures in
    let e9 = rounds_step w v _ _ 8 e8 c.mix_round-v-9.ensures in
    let e10 = rounds_step w v _ _ 9 e9 c.mix_round-v-10.ensures in
    let e11 = rounds_step w v _ _ 10 e10 c.mix_round-v-11.ensures in
    let e12 = rounds_step w v _ _ 11 e11 c.mix_round-v-12.ensures in
    c.fold.ensures ∙ ap (fold_halves c.args.state.now) (e12 ∙ ap (λ (words : List ℕ). rounds words v 12) c.words_of-m.ensures)
