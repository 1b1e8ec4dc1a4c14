-- The rest of a block of zeros is zeros.
use Rattle.std.proofs.Common.{◌++◌, ℕ, length, ap, ◌∙◌}
use Rattle.std.proofs.lemmas.List.{drop-replicate}
use Rattle.byte_words.specs.Xor.{zero_filled}
use Rattle.cts_mode.proofs.blocks.filled.Goals as goal

pub returns : goal.returns
unfolding zero_filled
returns c = c.whole.ensures ∙ ap (λ zs. c.args.piece.now ++ zs) (drop-replicate {X = ℕ} (length c.args.piece.now) 16 0)
