-- Each call writes its lines.
use Rattle.std.proofs.Common.{◌∙◌, ◌++◌, ◌∷◌, [], ap, append-nil, arith, subst}
use Rattle.std.specs.List.{All, flat_map}
use Rattle.protector_meta.specs.PolicyText.{wrap_line}
use Rattle.protector_meta.specs.PolicyRecords.{IsWrap}
use Rattle.protector_meta.specs.Wraps.{AreWraps}
use Rattle.protector_meta.proofs.PolicyReadingLaws.{written}
use Rattle.protector_meta.proofs.policy_text.encode_policy_file.Goals as goal

pub returns-clause-text : goal.returns-clause-text
returns-clause-text c =
    c.from_vec.ensures ∙ written c.args.policy.now c.bytes.result.now
    c.new-text.result.items c.push_line.new.text.items c.push_line-2.new.text.items c.push_digits_line.new.text.items c.push_options.new.text.items c.push_wraps.new.text.items
    c.bytes.ensures.value c.new-text.ensures.items
    (c.in_ok-push_line.ensures ∙ ap (λ line. c.new-text.result.items ++ line ++ 10 ∷ []) (append-nil _ ∙ c.version_line.ensures))
    c.in_ok-push_line-2.ensures c.in_ok-push_digits_line.ensures.line c.in_ok-push_options.ensures
    (c.in_ok-push_wraps.ensures.lines ∙ ap (λ wraps. c.push_options.new.text.items ++ flat_map (λ wrap. wrap_line wrap ++ 10 ∷ []) wraps) c.as_slice.ensures.value)

pub returns-clause-in_form : goal.returns-clause-in_form
returns-clause-in_form c = record {
  name = rw (← c.bytes.ensures.value) c.bytes.ensures.label;
  id = (omega arith, c.in_ok-push_digits_line.ensures.in_form);
  wraps = subst AreWraps c.as_slice.ensures.value c.as_slice.ensures.wraps;
  each = subst (All IsWrap) c.as_slice.ensures.value c.in_ok-push_wraps.ensures.in_form;
}
