-- Each call writes one of the seven lines.
use Rattle.std.proofs.Common.{◌∙◌, arith}
use Rattle.protector_meta.proofs.ProtectorLaws.{written}
use Rattle.protector_meta.proofs.protector_text.encode_protector.Goals as goal

pub returns-clause-text : goal.returns-clause-text
returns-clause-text c =
    c.from_vec.ensures ∙ written c.args.protector.now c.bytes.result.now c.bytes-2.result.now
    c.new-text.result.items c.push_line.new.text.items c.push_line-2.new.text.items c.push_kind.new.text.items c.push_line-3.new.text.items
    c.push_digits_line.new.text.items c.push_digits_line-2.new.text.items c.push_digits_line-3.new.text.items
    c.bytes.ensures.value c.bytes-2.ensures.value c.new-text.ensures.items c.in_ok-push_line.ensures c.in_ok-push_line-2.ensures c.in_ok-push_kind.ensures.line
    c.in_ok-push_line-3.ensures c.in_ok-push_digits_line.ensures.line c.in_ok-push_digits_line-2.ensures.line c.in_ok-push_digits_line-3.ensures.line

pub returns-clause-in_form : goal.returns-clause-in_form
returns-clause-in_form c = record {
  name = rw (← c.bytes.ensures.value) c.bytes.ensures.label;
  kind = c.in_ok-push_kind.ensures.in_form;
  descriptor = rw (← c.bytes-2.ensures.value) c.bytes-2.ensures.descriptor;
  iv = (omega arith, c.in_ok-push_digits_line.ensures.in_form);
  key = (omega arith, c.in_ok-push_digits_line-2.ensures.in_form);
  tag = (omega arith, c.in_ok-push_digits_line-3.ensures.in_form);
}
