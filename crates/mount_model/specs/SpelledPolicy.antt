-- The policy that 24 bytes without fault spell.
use Rattle.std.specs.Prelude.{ℕ, ◌%◌, Bool, List, slice_index, ◌==◌, if◌then◌else◌}
use Rattle.std.specs.Option.{unwrap_or}
use Rattle.std.specs.Str.{bytes_eq}
use Rattle.policy_ctx.specs.declared.policy.Pad.{Pad}
use Rattle.policy_ctx.specs.declared.policy.Pad.TheVariants.{P4, P8, P16, P32}
use Rattle.policy_ctx.specs.declared.policy.Unit.TheVariants.{Block}
use Rattle.policy_ctx.specs.declared.policy.Policy.{Policy}
use Rattle.policy_ctx.specs.declared.policy.Context.{Context}
use Rattle.policy_ctx.specs.Settings.{unit_of_log2}
use Rattle.policy_ctx.specs.Policy.{policy_bytes}
use Rattle.policy_ctx.specs.Context.{id_in, is_by_mode_in}

abbrev pub pad_of_bytes : ℕ → Pad
pad_of_bytes flags =
    if flags % 4 == 0 then P4 else
    if flags % 4 == 1 then P8 else
    if flags % 4 == 2 then P16 else
    P32

abbrev pub policy_in : List ℕ → Policy
policy_in bytes = record {
  pad = pad_of_bytes (slice_index bytes 3);
  unit = unwrap_or (unit_of_log2 (slice_index bytes 4)) Block;
  by_mode = is_by_mode_in bytes;
  id = id_in bytes;
}

-- the context of a node whose policy the bytes spell
abbrev pub context_of : List ℕ → List ℕ → Context
context_of policy nonce = record { policy = policy_in policy; nonce = nonce }

-- two policies are one, in each setting and in the key
abbrev pub is_same_policy : Policy → Policy → Bool
is_same_policy a b = bytes_eq (policy_bytes a) (policy_bytes b)
