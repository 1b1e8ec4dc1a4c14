use Rattle.std.proofs.Common.{rules, not}
use Rattle.std.proofs.lemmas.Fn.{filter_same}
use Rattle.protector_meta.specs.Wraps.{is_for}
use Rattle.protector_meta.proofs.wraps.remove_from.Goals as goal

pub returns : goal.returns
returns c = filter_same _ (λ wrap. not (is_for c.args.label.now wrap)) _ (λ x b f' k. search rules) _ _ c.retain.ensures.filtered
