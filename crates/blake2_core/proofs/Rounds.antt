-- A round more on the work vector.
use Rattle.std.proofs.Common.{◌≡◌, ℕ, suc, List, ap, ◌∙◌}
use Rattle.blake2_core.specs.Mixing.{mixed_round, rounds}

pub rounds_start : (words v : List ℕ) → rounds words v 0 ≡ v
unfolding rounds
rounds_start words v = λ i. v

pub rounds_step : (words v was now : List ℕ) (n : ℕ) → was ≡ rounds words v n → now ≡ mixed_round words was n → now ≡ rounds words v (suc n)
unfolding rounds
rounds_step words v was now n held next = next ∙ ap (λ (u : List ℕ). mixed_round words u n) held
