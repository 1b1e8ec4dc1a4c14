-- The piece is between what was before it and what was after it.
use Rattle.std.proofs.Common.{◌≡◌, ◌+◌, ◌-◌, ◌++◌, take, drop, length, ap, ◌∙◌, arith}
use Rattle.std.proofs.lemmas.List.{drop-drop}
use Rattle.byte_words.specs.Contents.{spliced}
use Rattle.data_crypt.proofs.splice.Goals as goal

pub returns : goal.returns
unfolding spliced
returns c =
    let size : c.args.at + length c.args.piece.now - c.args.at ≡ length c.args.piece.now = omega arith in
    let rest : drop (c.args.at + length c.args.piece.now - c.args.at) (drop c.args.at c.args.block.now) ≡ drop (c.args.at + length c.args.piece.now) c.args.block.now =
    ap (λ k. drop k (drop c.args.at c.args.block.now)) size ∙ drop-drop (length c.args.piece.now) c.args.at c.args.block.now in
    λ i. take c.args.at c.args.block.now ++ (c.copy_from_slice.ensures.after i ++ rest i)
