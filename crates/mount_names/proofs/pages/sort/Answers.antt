use Rattle.std.proofs.Common.{rules}
use Rattle.std.proofs.lemmas.List.Sorted.{answers_always}
use Rattle.mount_names.proofs.PageLemmas.{before, order_before, sorted_is}
use Rattle.mount_names.proofs.pages.sort.Goals as goal

pub returns : goal.returns
returns c =
    sorted_is _ _ c.sort_unstable_by.ensures.permutation
    (c.sort_unstable_by.ensures.sorted before order_before (answers_always _ _ _ (λ f a r g h. search rules)))
