use Rattle.std.proofs.Common.{rules}
use Rattle.std.proofs.lemmas.List.Sorted.{answers_always}
use Rattle.tree_image.proofs.OrderLemmas.{below, key_order, keys_in_order}
use Rattle.tree_image.proofs.order.sort.Goals as goal

pub returns : goal.returns
returns c =
    keys_in_order (λ e. e.now) _ _ c.sort_unstable_by.ensures.permutation
    (c.sort_unstable_by.ensures.sorted (λ a b. below a.now b.now) (key_order (λ e. e.now)) (answers_always _ _ _ (λ f a r g h. search rules)))
