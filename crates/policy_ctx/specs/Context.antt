-- The 40 bytes of a context: what is stored of a file's or a directory's encryption, as Linux lays out
-- its `fscrypt_context_v2`.
use Rattle.std.specs.Prelude.{ℕ, Bool, List, ◌++◌, length, take, drop, slice_index}
use Rattle.std.specs.Prelude.{bit_and, Option, Some, ◌≡◌, ◌==◌, not, if◌then◌else◌}
use Rattle.policy_ctx.specs.declared.policy.KeyId.{KeyId}
use Rattle.policy_ctx.specs.declared.policy.Context.{Context}
use Rattle.policy_ctx.specs.declared.fault.CtxFault.{CtxFault}
use Rattle.policy_ctx.specs.declared.fault.CtxFault.TheVariants.{Length}
use Rattle.policy_ctx.specs.Policy.{policy_bytes}
use Rattle.policy_ctx.specs.PolicyFaults.{header_fault}

-- the policy's bytes, and after them the nonce
abbrev pub context_bytes : Context → List ℕ
context_bytes c = policy_bytes c.policy ++ c.nonce

-- the first fault of the bytes as a context, if they are none
abbrev pub context_fault : List ℕ → Option CtxFault
context_fault b = if length b == 40 then header_fault b else Some Length

-- 16 bytes of an identifier, and 16 of a nonce
pub record HasSizes (c : Context) : Type 0 where
  pub id : length c.policy.id.0 ≡ 16
  pub nonce : length c.nonce ≡ 16

-- the identifier in the bytes of a context, from byte 8 on
abbrev pub id_in : List ℕ → KeyId
id_in context = record { 0 = take 16 (drop 8 context) }

-- whether flag 8 is set in the bytes of a context
abbrev pub is_by_mode_in : List ℕ → Bool
is_by_mode_in context = not (bit_and (slice_index context 3) 8 == 0)
