-- The policy that bytes spell is the one whose bytes they are.
use Rattle.std.proofs.Common.{◌≡◌, ◌==◌, Bool, true, false, take, bit_and, not, refl, arith}
use Rattle.std.proofs.lemmas.List.{take_all}
use Rattle.policy_ctx.specs.declared.policy.Pad.{Pad}
use Rattle.policy_ctx.specs.declared.policy.Pad.TheVariants.{P4, P8, P16, P32}
use Rattle.policy_ctx.specs.declared.policy.Unit.{Unit as DataUnit}
use Rattle.policy_ctx.specs.declared.policy.Unit.TheVariants.{Block, U512, U1024, U2048, U4096}
use Rattle.policy_ctx.specs.Settings.{unit_of_log2}
use Rattle.policy_ctx.specs.Policy.{flags_of, unit_log2}
use Rattle.std.specs.Option.{unwrap_or}
use Rattle.mount_model.specs.SpelledPolicy.{pad_of_bytes}
use Rattle.mount_model.specs.PolicyLaws.{PoliciesAreReadBack}

pad_of_bytes-flags_of : (pad : Pad) (by_mode : Bool) → pad_of_bytes (flags_of pad by_mode) ≡ pad
pad_of_bytes-flags_of P4 false = refl
pad_of_bytes-flags_of P8 false = refl
pad_of_bytes-flags_of P16 false = refl
pad_of_bytes-flags_of P32 false = refl
pad_of_bytes-flags_of P4 true = refl
pad_of_bytes-flags_of P8 true = refl
pad_of_bytes-flags_of P16 true = refl
pad_of_bytes-flags_of P32 true = refl

by_mode-flags_of : (pad : Pad) (by_mode : Bool) → not (bit_and (flags_of pad by_mode) 8 == 0) ≡ by_mode
by_mode-flags_of P4 false = refl
by_mode-flags_of P8 false = refl
by_mode-flags_of P16 false = refl
by_mode-flags_of P32 false = refl
by_mode-flags_of P4 true = refl
by_mode-flags_of P8 true = refl
by_mode-flags_of P16 true = refl
by_mode-flags_of P32 true = refl

unit-unit_log2 : (unit : DataUnit) → unwrap_or (unit_of_log2 (unit_log2 unit)) Block ≡ unit
unit-unit_log2 Block = refl
unit-unit_log2 U512 = refl
unit-unit_log2 U1024 = refl
unit-unit_log2 U2048 = refl
unit-unit_log2 U4096 = refl

pub read_back : PoliciesAreReadBack
read_back p sized = let whole : take 16 p.id.0 ≡ p.id.0 = take_all 16 p.id.0 (omega (arith, sized)) in λ i. record {
  pad = pad_of_bytes-flags_of p.pad p.by_mode i;
  unit = unit-unit_log2 p.unit i;
  by_mode = by_mode-flags_of p.pad p.by_mode i;
  id = record { 0 = whole i };
}
