-- One case for even groups, and one for odd ones.
use Rattle.std.proofs.Common.{◌≡◌, ◌-◌, map, ap, ◌∙◌, arith}
use Rattle.std.specs.Prelude.{bit_xor}
use Rattle.std.specs.Simd.Lanes.{zip2}
use Rattle.aes_core.specs.Groups.{last_column}
use Rattle.aes_core.specs.Lanes.{round_key, row_on}
use Rattle.aes_core.specs.Substitution.{substitute_byte}
use Rattle.aes_core.proofs.GroupLemmas.{changed_even, changed_odd}
use Rattle.aes_core.proofs.key_schedule.changed_word.Goals.{then-place-eq0, else-place-eq0}
use Rattle.aes_core.proofs.key_schedule.changed_word.Goals as goal

pub returns : goal.returns
returns c =
    let word : c.last_column-word.result ≡ last_column (round_key c.args.keys.now (c.args.n - 1)) = c.last_column-word.ensures ∙ ap last_column c.round_key.ensures in
    elim c.if-place-eq0.branch [
      | then-place-eq0 w ↦
          let substituted = w.substitute.ensures ∙ ap (map substitute_byte) (w.next_row.ensures ∙ ap (λ v. row_on 1 v) word) in
          w.result-is ∙ w.xor.ensures ∙ (λ i. zip2 bit_xor (substituted i) (w.round_constants.ensures i)) ∙ changed_even c.args.keys.now c.args.n (omega arith) w.if-place-eq0.true
      | else-place-eq0 w ↦
          w.result-is ∙ w.substitute-else-place-eq0.ensures ∙ ap (map substitute_byte) word ∙ changed_odd c.args.keys.now c.args.n (omega arith) w.if-place-eq0.false
    ]
