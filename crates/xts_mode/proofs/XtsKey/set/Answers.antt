-- The halves, joined, are the key.
use Rattle.std.proofs.Common.{◌≡◌, ◌++◌, drop, arith, ◌∙◌, length-drop}
use Rattle.std.proofs.lemmas.List.{take-append-drop, take_all}
use Rattle.xts_mode.proofs.XtsKey.set.Goals as goal

pub returns : goal.returns
returns c =
    let second : c.set-2.new.self ≡ drop 32 c.args.key.now =
    c.set-2.ensures ∙ take_all 32 (drop 32 c.args.key.now) (omega (arith, length-drop 32 c.args.key.now)) in
    (λ j. c.set.ensures j ++ second j) ∙ take-append-drop 32 c.args.key.now
