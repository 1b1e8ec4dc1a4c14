use Rattle.std.proofs.Common.{◌≡◌, drop, take, rules, ◌∙◌, arith}
use Rattle.std.proofs.lemmas.List.{take_all, length-drop}
use Rattle.mount_files.proofs.needs.nonce_in.Goals as goal

pub returns : goal.returns
returns c =
    let copied : c.copy_from_slice.new.self ≡ take 16 (drop 24 c.args.context.now) = search rules in
    copied ∙ take_all 16 (drop 24 c.args.context.now) (omega (arith, length-drop 24 c.args.context.now, c.told-context))
