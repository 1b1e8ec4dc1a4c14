use Rattle.std.proofs.Common.{◌∙◌, ap, sym, Some}
use Rattle.script_words.proofs.PartSteps.{path_of-empty, path_of-none, path_of-root, path_of-read}
use Rattle.script_words.proofs.PathLemmas.{IsPath-few_parts}
use Rattle.script_words.proofs.path.read_path.Goals as goal
use Rattle.script_words.proofs.path.read_path.Goals.{then-is_empty-via-then-is_empty, then-is_empty-via-else-is_empty+then-text-ne47}

pub returns-then-is_empty : goal.returns-then-is_empty
returns-then-is_empty c =
    elim c.then-is_empty.branch [
      | then-is_empty-via-then-is_empty w ↦ path_of-empty c.args.text.now (sym c.is_empty.ensures ∙ w.if-is_empty.true)
      | then-is_empty-via-else-is_empty+then-text-ne47 w ↦ path_of-none c.args.text.now w.if-text-ne47.true
    ]

pub returns-then-text-eq1 : goal.returns-then-text-eq1
returns-then-text-eq1 c = ap Some c.new-parts.ensures ∙ path_of-root c.args.text.now c.if-text-ne47.false c.if-text-eq1.true

pub invariant_of-result-in-Some : goal.invariant_of-result-in-Some
invariant_of-result-in-Some c = IsPath-few_parts _ _ (sym c.in_ok-parts.ensures ∙ c.in-Some.is)

pub returns-in-Some : goal.returns-in-Some
returns-in-Some c =
    path_of-read c.args.text.now _ c.if-text-ne47.false (sym c.if-is_empty.ensures) c.if-text-eq1.false (sym c.in-Some.is ∙ c.in_ok-parts.ensures)

pub returns-in-None : goal.returns-in-None
returns-in-None c =
    path_of-read c.args.text.now _ c.if-text-ne47.false (sym c.if-is_empty.ensures) c.if-text-eq1.false (sym c.in-None.is ∙ c.in_ok-parts.ensures)
