use Rattle.std.proofs.Common.{◌≡◌, ◌+◌, length, take, drop, nat_lt, ap, ◌∙◌}
use Rattle.mount_model.specs.ListAnswers.{in_order}
use Rattle.mount_model.specs.declared.limits.TheConstants.{MAX_LISTED}
use Rattle.mount_model.specs.declared.reply.Reply.TheVariants.{Names}
use Rattle.mount_names.specs.NamePages.{names_of}
use Rattle.mount_names.proofs.PageLemmas.{page_names, more_is}
use Rattle.mount_names.proofs.pages.page_of.Goals as goal

pub returns : goal.returns
returns c =
    let names = c.args.names.now in
    let rest = c.all_from-rest.result.now in
    let page = c.least-page.result.now in
    let from = c.min-from.result in
    let first : in_order (names_of page) ≡ take c.min-count.result (in_order (names_of rest)) = c.least-page.ensures in
    let told : c.in_ok-names.names ≡ take MAX_LISTED (drop c.args.start (in_order (names_of names)))
    = c.in_ok-names.ensures ∙ (c.sort.ensures ∙ page_names names rest page c.args.start from MAX_LISTED c.min-from.ensures c.all_from-rest.ensures
    (first ∙ ap (λ n. take n (in_order (names_of rest))) c.min-count.ensures)) in
    let more : nat_lt MAX_LISTED (length rest) ≡ nat_lt (c.args.start + MAX_LISTED) (length (in_order (names_of names)))
    = more_is names rest page c.args.start from MAX_LISTED c.min-from.ensures c.all_from-rest.ensures in
    λ i. Names (told i) (more i)
