-- The policy that bytes spell is the one whose bytes they are.
use Rattle.std.specs.Prelude.{◌≡◌, length}
use Rattle.policy_ctx.specs.declared.policy.Policy.{Policy}
use Rattle.policy_ctx.specs.Policy.{policy_bytes}
use Rattle.mount_model.specs.SpelledPolicy.{policy_in}

-- each policy, its key's identifier being 16 bytes, is the one that its own bytes spell
abbrev pub PoliciesAreReadBack : Type 0
PoliciesAreReadBack = (p : Policy) → length p.id.0 ≡ 16 → policy_in (policy_bytes p) ≡ p
