use Rattle.std.proofs.Common.{arith, sym, ℕ}
use mathlib.Core.Bool.{true≢false}
use Rattle.std.proofs.lemmas.List.{get_or-replicate}
use Rattle.fsc_speed.proofs.names.encrypt_names.Goals as goal

-- the name has 32 letters, so it is one
pub unreachable-requires : goal.unreachable-requires
unreachable-requires g c =
    true≢false (sym (c.in_default.ensures.plain.1
    (omega arith, omega arith, λ held. omega (arith, get_or-replicate {A = ℕ} 32 held.0 97 0 held.1, held.2))))
