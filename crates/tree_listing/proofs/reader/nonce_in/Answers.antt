use Rattle.std.proofs.Common.{drop, ◌∙◌, arith}
use Rattle.std.proofs.lemmas.List.{take_all, length-drop}
use Rattle.tree_listing.proofs.reader.nonce_in.Goals as goal

-- all bytes after the policy are the nonce
pub returns : goal.returns
returns c =
    let long = length-drop 24 c.args.context.now in
    c.copy_from_slice.ensures.after ∙ take_all 16 (drop 24 c.args.context.now) (omega (arith, long, c.told-context))
