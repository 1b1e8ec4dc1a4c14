use Rattle.std.proofs.Common.{◌++◌, ◌∷◌, [], ap, ◌∙◌, arith}
use Rattle.script_lang.specs.declared.verb.Verb.TheVariants as verb
use Rattle.load_gen.specs.Operations.{operation}
use Rattle.load_gen.proofs.CallerLemmas.{goes_on, number_goes_on, verbs_whole, number_whole}
use Rattle.load_gen.proofs.callers.verbs.Goals as goal

pub drawn-preserved : goal.drawn-preserved
drawn-preserved c = record {
  made = goes_on c.drawn.verbs.items c.push.new.self.items _ c.drawn.counter c.args.caller c.drawn.numbers.last c.next_upper_bits-drawn.new.self.last
      (omega arith) c.next_upper_bits-drawn.ensures.gone_on
      (c.in_ok-push.ensures.items
      ∙ ap (λ v. c.drawn.verbs.items ++ v ∷ []) (c.in_ok-operation.ensures ∙ ap (operation c.args.caller) c.next_upper_bits-drawn.ensures.value))
      c.drawn.invariant.made;
  last = number_goes_on c.drawn.counter c.drawn.numbers.last c.next_upper_bits-drawn.new.self.last _ (omega arith) c.next_upper_bits-drawn.ensures.gone_on c.drawn.invariant.last;
}

pub returns-clause-value : goal.returns-clause-value
returns-clause-value c =
    verbs_whole c.drawn.verbs.items c.push-2.new.self.items c.push-3.new.self.items c.drawn.counter c.args.caller c.drawn.numbers.last _
    (omega arith) c.drawn.invariant.made c.in_ok-push-2.ensures.items
    (c.in_ok-push-3.ensures.items ∙ ap (λ k. c.push-2.new.self.items ++ verb.RemoveKey k ∷ []) c.raw_key.ensures)

pub returns-clause-gone_on : goal.returns-clause-gone_on
returns-clause-gone_on c = number_whole c.drawn.counter c.drawn.numbers.last _ (omega arith) c.drawn.invariant.last
