-- Sums of two columns, and then of two such sums.
use Rattle.std.proofs.Common.{ap, ◌∙◌}
use Rattle.std.specs.Prelude.{bit_xor}
use Rattle.std.specs.Simd.Lanes.{zip2}
use Rattle.aes_core.proofs.GroupLemmas.{two_before, sums_by_columns}
use Rattle.aes_core.proofs.key_schedule.column_sums.Goals as goal

pub returns : goal.returns
returns c = c.xor.ensures ∙ ap (λ v. zip2 bit_xor v (two_before v)) c.xor-pairs.ensures ∙ sums_by_columns c.args.words c.fits-words.0
