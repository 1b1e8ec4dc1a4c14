use Rattle.std.proofs.Common.{◌≡◌, ◌+◌, ◌-◌, ◌^◌, ◌∙◌, inl, inr, arith}
use Rattle.std.proofs.lemmas.Bool.{cases_lt}
use Rattle.std.proofs.Math.Nat.{min-eq_left}
use Rattle.fsc_outside.proofs.laws.a_count_rises_in_place_only_at_its_end.Goals as goal

-- below the end of its type a count that rose is one more
pub returns : goal.returns
returns c count rose = elim (cases_lt count (2 ^ 64 - 1)) [
  | inl low ↦
      let risen : count ≡ count + 1 = rose ∙ min-eq_left (omega arith) in
      absurd (omega (arith, risen))
  | inr at_end ↦ at_end
]
