-- Four words more.
use Rattle.std.proofs.Common.{ap, ◌∙◌, arith}
use Rattle.std.specs.Prelude.{bit_xor}
use Rattle.std.specs.Simd.Lanes.{zip2}
use Rattle.aes_core.specs.Groups.{column_sums}
use Rattle.aes_core.proofs.GroupLemmas.{group_written}
use Rattle.aes_core.proofs.key_schedule.append_group.Goals as goal

pub returns : goal.returns
returns c key now =
    let sums = c.column_sums-sums.ensures ∙ ap column_sums c.round_key.ensures in
    group_written key c.args.keys.now c.xor-group.result c.args.n _ (omega arith) (omega arith) (omega arith) (omega arith)
    (c.xor-group.ensures ∙ (λ i. zip2 bit_xor (sums i) (c.changed_word.ensures i))) now
