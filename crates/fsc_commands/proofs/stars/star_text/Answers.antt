use Rattle.std.proofs.Common.{◌≡◌, ℕ, List, ◌++◌, ap, sym, subst, ◌∙◌, arith}
use Rattle.text_words.specs.Numbers.{decimal_of}
use Rattle.mount_model.specs.Carried.{IsPart}
use Rattle.fsc_commands.specs.Stars as spec
use Rattle.fsc_commands.proofs.StarLemmas.{star_fits}
use Rattle.fsc_commands.proofs.stars.star_text.Goals as goal

pub returns-clause-fits : goal.returns-clause-fits
returns-clause-fits c =
    let told : c.from_vec.result ≡ spec.star_text c.args.number =
    c.from_vec.ensures ∙ c.in_ok-push_decimal.ensures.written
    ∙ ap (λ text. text ++ decimal_of c.from.result) c.in_ok-text.ensures.items ∙ ap spec.star_text c.from.ensures in
    let P : List ℕ → Type 0 = λ text. IsPart text in
    subst P (sym told) (star_fits c.args.number (omega arith))
