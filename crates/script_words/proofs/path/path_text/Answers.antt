use Rattle.std.proofs.Common.{◌∙◌, ap, sym, arith, take_all}
use Rattle.std.proofs.lemmas.Bool.{eqb-false}
use lib.Utf8.{encode}
use Rattle.script_words.specs.PathText.{parts_text}
use Rattle.script_words.proofs.PartSteps.{path_text-of_none, path_text-nonempty, parts_text-more}
use Rattle.script_words.proofs.path.path_text.Goals as goal

pub returns-then-is_empty : goal.returns-then-is_empty
returns-then-is_empty c = path_text-of_none c.args.parts.now c.from_str.result c.if-is_empty.ensures c.from_str.ensures.ok

pub parts-preserved : goal.parts-preserved
unfolding encode
parts-preserved c =
    parts_text-more c.args.parts.now c.parts.part-index c.part-item.result _ _ _ c.parts.invariant (omega arith) c.part-item.is
    c.in_ok-push.ensures.bytes c.in_ok-append_part.ensures

pub returns : goal.returns
returns c =
    c.parts.invariant ∙ ap parts_text (take_all _ _ c.parts-test.false)
    ∙ sym (path_text-nonempty c.args.parts.now (eqb-false _ 0 (sym c.if-is_empty.ensures)))
