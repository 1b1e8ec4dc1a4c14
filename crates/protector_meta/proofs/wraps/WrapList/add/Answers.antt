use Rattle.std.proofs.Common.{rules, ◌<◌, ◌≡◌, false, length}
use Rattle.protector_meta.specs.Wraps.{is_listed}
use Rattle.protector_meta.proofs.WrapLemmas.{AreWraps-push}
use Rattle.protector_meta.proofs.wraps.WrapList.add.Goals as goal

pub invariant_of-self-2 : goal.invariant_of-self-2
invariant_of-self-2 c =
    let new : is_listed c.args.wrap.protector c.self.inside.wraps.items ≡ false = search rules in
    let room : length c.self.inside.wraps.items < 16 = search rules in
    AreWraps-push c.self.inside.wraps.items c.push.new.self.items c.args.wrap c.self.invariant new room c.in_ok-push.ensures.items
