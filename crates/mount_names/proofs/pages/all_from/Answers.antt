use Rattle.std.proofs.Common.{rules, ◌≡◌, ◌+◌, length}
use Rattle.std.proofs.lemmas.List.Sorted.{answers_always}
use Rattle.mount_names.proofs.PageLemmas.{before, order_before, back_is}
use Rattle.mount_names.proofs.pages.all_from.Goals as goal

pub returns : goal.returns
returns c =
    let it = c.select_nth_unstable_by in
    let front : length it.result.0.now + 1 ≡ c.args.from = search rules in
    back_is it.result.0.now it.result.2.now it.result.1.now
    (it.ensures.partitioned before order_before (answers_always _ _ _ (λ f a r g h. search rules)))
    c.args.names.now it.ensures.permutation c.args.from front
