-- Eight times.
use Rattle.std.proofs.Common.{ap, ◌∙◌}
use Rattle.xts_mode.specs.Groups.{tweak_from}
use Rattle.xts_mode.specs.Xts.{times_alpha}
use Rattle.xts_mode.proofs.group.after_group.Goals as goal

pub returns : goal.returns
unfolding tweak_from
returns c =
    let t2 = c.times_alpha-third.ensures ∙ ap times_alpha c.times_alpha.ensures in
    let t4 = c.times_alpha-fifth.ensures ∙ ap times_alpha (c.times_alpha-2.ensures ∙ ap times_alpha t2) in
    let t6 = c.times_alpha-seventh.ensures ∙ ap times_alpha (c.times_alpha-3.ensures ∙ ap times_alpha t4) in
    c.times_alpha-5.ensures ∙ ap times_alpha (c.times_alpha-4.ensures ∙ ap times_alpha t6)
