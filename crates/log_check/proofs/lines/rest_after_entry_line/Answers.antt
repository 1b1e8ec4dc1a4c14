use Rattle.std.proofs.Common.{◌≡◌, ℕ, List, ◌++◌, MatchOption, subst, ◌∙◌}
use Rattle.std.proofs.lemmas.Bool.Decides.{Decides-eqb}
use Rattle.std.proofs.lemmas.Slice.Eq.{strip_prefix_is}
use Rattle.log_check.specs.Certificate.{BeginsWith}
use Rattle.log_check.proofs.BeginningLemmas.{behind_is}
use Rattle.log_check.proofs.lines.rest_after_entry_line.Goals as goal

pub returns : goal.returns
returns c =
    subst (λ (l : List ℕ). MatchOption c.strip_prefix.result (BeginsWith c.args.text.now l → ⊥) (λ left. c.args.text.now ≡ l ++ left.now))
    (c.as_slice.ensures ∙ c.in_ok-line.ensures)
    (behind_is c.args.text.now c.as_slice.result.now c.strip_prefix.result
    (strip_prefix_is Decides-eqb c.args.text.now c.as_slice.result.now c.strip_prefix.result c.strip_prefix.ensures.cases))
