-- From a fact that is computed over a whole table to the fact at each place.
use Rattle.std.proofs.Common.{◌≡◌, ℕ, zero, suc, ◌+◌, ◌≤◌, ◌<◌, ap, ◌∙◌, arith, inl, inr}
use Rattle.std.proofs.lemmas.Bool.{and_parts, cases_eq}
use Rattle.std.specs.Prelude.{Bool, true}
use Rattle.byte_words.specs.Tables.{all_from}

pub all_from-at : (test : ℕ → Bool) (from n k : ℕ) → all_from test from n ≡ true → from ≤ k → k < from + n → test k ≡ true
unfolding all_from
all_from-at test from zero k all low high = absurd (omega arith)
all_from-at test from (suc n) k all low high =
    let parts : (test from ≡ true) × (all_from test (suc from) n ≡ true) = and_parts (test from) (all_from test (suc from) n) all in
    elim (cases_eq k from) [
      | inl same ↦ ap test same ∙ parts.0
      | inr other ↦ all_from-at test (suc from) n k parts.1 (omega arith) (omega arith)
    ]
