use Rattle.std.proofs.Common.{ℕ, IsTrue, List, subst, ◌∙◌}
use Rattle.std.proofs.lemmas.Bool.Decides.{Decides-eqb}
use Rattle.std.proofs.lemmas.Slice.Eq.{starts_is}
use Rattle.log_check.specs.Certificate.{BeginsWith}
use Rattle.log_check.proofs.BeginningLemmas.{begins_is}
use Rattle.log_check.proofs.lines.is_line_of.Goals as goal

pub returns : goal.returns
returns c =
    subst (λ (l : List ℕ). (IsTrue c.starts_with.result → BeginsWith c.args.text.now l) × (BeginsWith c.args.text.now l → IsTrue c.starts_with.result))
    (c.as_slice.ensures ∙ c.in_ok-head.ensures)
    (begins_is c.args.text.now c.as_slice.result.now c.starts_with.result
    (starts_is Decides-eqb c.args.text.now c.as_slice.result.now c.starts_with.result c.starts_with.ensures.value))
