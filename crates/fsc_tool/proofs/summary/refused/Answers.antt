use Rattle.std.proofs.Common.{◌∙◌, rules, tests}
use Rattle.std.proofs.lemmas.Iterator.{YieldsList-from_slice}
use Rattle.std.proofs.lemmas.Iterator.Consumers.{YieldsList-from_filter, count_from_yields_List}
use Rattle.std.proofs.lemmas.List.Sums.{length-filter}
use Rattle.reply_text.specs.Logged.{LoggedEntry}
use Rattle.fsc_tool.specs.Summary.{is_refusal}
use Rattle.fsc_tool.proofs.summary.refused.Goals as goal

pub returns : goal.returns
returns c =
    count_from_yields_List c.filter.result c.count.result c.count.ensures.ran
    (YieldsList-from_filter _ (λ (e : LoggedEntry). is_refusal e.reply) (YieldsList-from_slice c.args.history.now cc) c.filter.ensures.closure (λ x r q k. search (rules, tests)))
    ∙ length-filter (λ (e : LoggedEntry). is_refusal e.reply) c.args.history.now
