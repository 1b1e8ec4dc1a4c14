use Rattle.std.proofs.Common.{◌++◌, ◌∷◌, [], ap, sym, subst, ◌∙◌, arith}
use Rattle.script_lang.specs.Spelled.{IsSpelled}
use Rattle.load_gen.specs.Generated.{generated_script}
use Rattle.load_gen.proofs.ScriptLemmas.{sections_go_on, sections_whole, IsSpelled-generated}
use Rattle.load_gen.proofs.script.generate_script.Goals as goal

pub callers-preserved : goal.callers-preserved
callers-preserved c =
    sections_go_on c.callers.script c.push.new.self _ c.callers.caller c.callers.numbers.last c.section.new.numbers.last
    (omega arith) c.in_ok-section.ensures.gone_on
    (c.in_ok-push.ensures.appended ∙ ap (λ s. c.callers.script ++ s ∷ []) c.in_ok-section.ensures.value) c.callers.invariant

pub returns-clause-value : goal.returns-clause-value
unfolding generated_script
returns-clause-value c = sections_whole c.callers.script _ c.callers.caller c.callers.numbers.last (omega arith) c.callers.invariant

pub returns-clause-spelled : goal.returns-clause-spelled
unfolding generated_script
returns-clause-spelled c =
    subst IsSpelled (sym (sections_whole c.callers.script _ c.callers.caller c.callers.numbers.last (omega arith) c.callers.invariant)) (IsSpelled-generated c.args.number)
