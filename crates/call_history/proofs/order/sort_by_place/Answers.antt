use Rattle.std.proofs.Common.{◌∙◌, rules}
use Rattle.std.proofs.lemmas.List.Sorted.{answers_always, IsNonDecreasingBy-from_sort}
use Rattle.std.proofs.lemmas.Result.{on_ok_weaker}
use Rattle.call_history.proofs.Ordering.{in_order_by_callers}
use Rattle.call_history.proofs.Sorting.{sorted_in_order}
use Rattle.call_history.proofs.order.sort_by_place.Goals as goal

pub returns-clause-sorted : goal.returns-clause-sorted
returns-clause-sorted g c =
    let places = answers_always _ _ _ (λ f a r next called. search rules) in
    on_ok_weaker c.sort_by_key.result
    (λ sorted. sorted_in_order _ _ (IsNonDecreasingBy-from_sort (λ x. x.0) _ (sorted (λ x. x.0) places)) (c.sort_by_key.ensures.stable (λ x. x.0) places))
    c.sort_by_key.ensures.sorted

pub returns-clause-history : goal.returns-clause-history
returns-clause-history g c =
    on_ok_weaker c.sort_by_key.result
    (λ sorted h each. sorted ∙ in_order_by_callers 0 h _ each)
    (returns-clause-sorted g c)
