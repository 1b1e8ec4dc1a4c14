-- Truth tables of the inputs of the circuits and of their expected outputs.
use Rattle.std.proofs.Common.{◌≡◌, ℕ, List, true, refl, sym, ◌∙◌}
use Rattle.std.specs.Prelude.{nat_eq}
use Rattle.std.specs.Int.{bit_at}
use Rattle.byte_words.specs.Tables.{all_from}
use Rattle.aes_core.specs.Steps.{inverse_substitute_bytes}
use Rattle.aes_core.specs.Substitution.{inverse_substitute_byte}
use Rattle.aes_core.specs.Planes.{packed, vector_of, plane, AllBlocks}
use Rattle.aes_core.specs.MiddleRounds.{state_map, substitute_without_constant, plus_constant}
use Rattle.aes_core.proofs.PlaneLemmas.{plane_same}

-- the plane of a bit
pub plane_of_bit : (k table : ℕ) (s : ℕ → List ℕ) → AllBlocks s → all_from (λ x. nat_eq (bit_at x k) (bit_at table x)) 0 256 ≡ true → plane (λ x. bit_at x k) s ≡ plane (bit_at table) s
plane_of_bit k table s blocks all = plane_same (λ x. bit_at x k) (bit_at table) s blocks all

-- a function of bytes, block by block
pub plane_of_state_map : (f : ℕ → ℕ) (k : ℕ) (s : ℕ → List ℕ) → plane (λ x. bit_at (f x) k) s ≡ plane (λ x. bit_at x k) (λ b. state_map f (s b))
unfolding plane vector_of packed state_map
plane_of_state_map f k s = refl

-- the plane of a bit, if a constant was added
pub plane_plus_constant : (k table : ℕ) (s : ℕ → List ℕ) → AllBlocks s → all_from (λ x. nat_eq (bit_at (plus_constant x) k) (bit_at table x)) 0 256 ≡ true →
    plane (λ x. bit_at x k) (λ b. state_map plus_constant (s b)) ≡ plane (bit_at table) s
plane_plus_constant k table s blocks all = sym (plane_of_state_map plus_constant k s) ∙ plane_same (λ x. bit_at (plus_constant x) k) (bit_at table) s blocks all

-- the plane of a bit of the S-box without its constant
pub plane_without_constant : (k table : ℕ) (s : ℕ → List ℕ) → AllBlocks s → all_from (λ x. nat_eq (bit_at table x) (bit_at (substitute_without_constant x) k)) 0 256 ≡ true →
    plane (bit_at table) s ≡ plane (λ x. bit_at x k) (λ b. state_map substitute_without_constant (s b))
plane_without_constant k table s blocks all = plane_same (bit_at table) (λ x. bit_at (substitute_without_constant x) k) s blocks all ∙ plane_of_state_map substitute_without_constant k s

inverse_substituted : (s : ℕ → List ℕ) (k : ℕ) → plane (λ x. bit_at x k) (λ b. state_map inverse_substitute_byte (s b)) ≡ plane (λ x. bit_at x k) (λ b. inverse_substitute_bytes (s b))
unfolding state_map inverse_substitute_bytes
inverse_substituted s k = refl

pub inverse_plane_of_sbox : (k table : ℕ) (s : ℕ → List ℕ) → AllBlocks s → all_from (λ x. nat_eq (bit_at table x) (bit_at (inverse_substitute_byte x) k)) 0 256 ≡ true →
    plane (bit_at table) s ≡ plane (λ x. bit_at x k) (λ b. inverse_substitute_bytes (s b))
inverse_plane_of_sbox k table s blocks all =
    plane_same (bit_at table) (λ x. bit_at (inverse_substitute_byte x) k) s blocks all ∙ plane_of_state_map inverse_substitute_byte k s ∙ inverse_substituted s k
