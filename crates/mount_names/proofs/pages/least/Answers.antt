use Rattle.std.proofs.Common.{rules, ◌≡◌, length, sym, ◌∙◌, arith}
use Rattle.std.proofs.lemmas.List.{take_all}
use Rattle.std.proofs.lemmas.List.Sorted.{answers_always}
use Rattle.mount_model.specs.ListAnswers.{in_order}
use Rattle.mount_names.specs.NamePages.{names_of}
use Rattle.mount_names.proofs.PageLemmas.{before, order_before, front_is, length_in_order, length_names}
use Rattle.mount_names.proofs.pages.least.Goals as goal

pub returns-then-count-names : goal.returns-then-count-names
returns-then-count-names c =
    let names = c.args.names.now in
    let many : length (in_order (names_of names)) ≡ length names = length_in_order (names_of names) ∙ length_names names in
    let same : c.args.count ≡ length names = search rules in
    sym (take_all c.args.count (in_order (names_of names)) (omega arith))

pub returns : goal.returns
returns c =
    let it = c.select_nth_unstable_by in
    front_is it.result.0.now it.result.2.now it.result.1.now
    (it.ensures.partitioned before order_before (answers_always _ _ _ (λ f a r g h. search rules)))
    c.args.names.now it.ensures.permutation c.args.count it.ensures.front_len
