use Rattle.std.proofs.Common.{rules, ◌≤◌, ◌≡◌, true, length}
use Rattle.protector_meta.specs.Wraps.{is_listed}
use Rattle.protector_meta.proofs.WrapLemmas.{AreWraps-without}
use Rattle.protector_meta.proofs.wraps.WrapList.remove.Goals as goal

pub invariant_of-self : goal.invariant_of-self
invariant_of-self c =
    let listed : is_listed c.args.label.now c.self.inside.wraps.items ≡ true = search rules in
    let two : 2 ≤ length c.self.inside.wraps.items = search rules in
    AreWraps-without c.args.label.now c.self.inside.wraps.items c.remove_from.new.wraps.items c.self.invariant listed two c.remove_from.ensures
