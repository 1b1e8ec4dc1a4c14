use Rattle.std.proofs.Common.{rules, append_assoc, arith}
use Rattle.protector_meta.proofs.policy_text.push_wrap.Goals as goal

pub returns-clause-line : goal.returns-clause-line
returns-clause-line c = search (rules, append_assoc)

pub returns-clause-in_form : goal.returns-clause-in_form
returns-clause-in_form c = record {
  protector = rw (← c.bytes.ensures.value) c.bytes.ensures.label;
  iv = (omega arith, c.in_ok-push_digit_word.ensures.in_form);
  key = (omega arith, c.in_ok-push_digit_word-2.ensures.in_form);
  tag = (omega arith, c.in_ok-push_digit_word-3.ensures.in_form);
}
