-- The test by which a map of numbers finds one.
use Rattle.std.proofs.Common.{◌≡◌, ◌≢◌, ℕ, true, false, sym, ◌∙◌}
use Rattle.std.proofs.lemmas.Bool.{eqb-true, eq-eqb, ne_eqb}
use Rattle.std.specs.Ordering.{nat_cmp, eq_by_cmp}
use Rattle.std.specs.Cmp.{unsigned_tied}

pub tied : (a b : ℕ) → a ≡ b → eq_by_cmp nat_cmp a b ≡ true
tied a b same = unsigned_tied a b ∙ eq-eqb a b same

pub untied : (a b : ℕ) → (a ≢ b) → eq_by_cmp nat_cmp a b ≡ false
untied a b differ = unsigned_tied a b ∙ ne_eqb a b differ

pub same_of_tied : (a b : ℕ) → eq_by_cmp nat_cmp a b ≡ true → a ≡ b
same_of_tied a b test = eqb-true a b (sym (unsigned_tied a b) ∙ test)
