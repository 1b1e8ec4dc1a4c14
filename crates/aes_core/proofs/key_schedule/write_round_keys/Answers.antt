-- The key, a group, and then two groups at a time.
use Rattle.std.proofs.Common.{ℕ, ◌+◌, ◌*◌, List, arith, take, ap, ◌∙◌}
use Rattle.std.proofs.lemmas.List.{take_at}
use Rattle.aes_core.specs.Groups.{HoldsGroups}
use Rattle.aes_core.specs.RoundKeys.{key_schedule}
use Rattle.aes_core.proofs.GroupLemmas.{groups_counted, groups_whole}
use Rattle.aes_core.proofs.key_schedule.write_round_keys.Goals as goal

pub pairs-init : goal.pairs-init
unfolding key_schedule
pairs-init c =
    let key : HoldsGroups c.begin_with.new.keys c.args.key.now 2 = ap (λ w. take 32 w) c.begin_with.ensures ∙ take_at c.args.key.now _ 32 (omega arith) in
    (omega arith, c.append_group.ensures c.args.key.now key)

pub pairs-preserved : goal.pairs-preserved
pairs-preserved c =
    let key : List ℕ = c.args.key.now in
    let odd : HoldsGroups c.append_group-in-pairs.new.keys key (2 * c.pairs.pair + 2) =
    groups_counted c.append_group-in-pairs.new.keys key _ _ (omega arith) (c.append_group-in-pairs.ensures key c.pairs.invariant.1) in
    (omega arith, groups_counted c.append_group-in-pairs-2.new.keys key _ _ (omega arith) (c.append_group-in-pairs-2.ensures key odd))

pub returns : goal.returns
returns c = groups_whole c.args.key.now c.pairs.keys (2 * c.pairs.pair + 1) (omega arith) c.pairs.invariant.0 c.pairs.invariant.1
