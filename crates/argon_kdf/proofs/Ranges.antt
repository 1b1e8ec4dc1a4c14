-- What it means that the costs are accepted.
use Rattle.std.proofs.Common.{◌≡◌, ℕ, ◌+◌, ◌*◌, ◌/◌, ◌<◌, ◌≤◌, Ok, inl, inr, arith}
use Rattle.std.proofs.Math.Nat.{lt-mul-div-succ, div-add-mod, mul-le-mul_left}
use Rattle.std.proofs.lemmas.Bool.{cases_lt}
use Rattle.std.proofs.lemmas.Bool.Decides.{nat_tests}
use Rattle.argon_kdf.specs.CostLimits.{checked_costs}
use Rattle.argon_kdf.specs.declared.costs.Costs.{Costs}

pub some_pass : (costs : Costs) → checked_costs costs ≡ Ok tt → 1 ≤ costs.passes
some_pass costs accepted = grind (arith, nat_tests)

pub few_passes : (costs : Costs) → checked_costs costs ≡ Ok tt → costs.passes ≤ 16
few_passes costs accepted = grind (arith, nat_tests)

pub some_lane : (costs : Costs) → checked_costs costs ≡ Ok tt → 1 ≤ costs.lanes
some_lane costs accepted = grind (arith, nat_tests)

pub few_lanes : (costs : Costs) → checked_costs costs ≡ Ok tt → costs.lanes ≤ 8
few_lanes costs accepted = grind (arith, nat_tests)

pub enough_kib : (costs : Costs) → checked_costs costs ≡ Ok tt → 8 * costs.lanes ≤ costs.kib
enough_kib costs accepted = grind (arith, nat_tests)

pub most_kib : (costs : Costs) → checked_costs costs ≡ Ok tt → costs.kib ≤ 65536
most_kib costs accepted = grind (arith, nat_tests)

pub wide : (lanes kib : ℕ) → 1 ≤ lanes → 8 * lanes ≤ kib → 2 ≤ kib / (4 * lanes)
wide lanes kib some enough =
    let q : ℕ = kib / (4 * lanes) in
    let above : kib < 4 * lanes * (q + 1) = lt-mul-div-succ kib (omega arith) in
    elim (cases_lt q 2) [
      | inl under ↦
          let low : 4 * lanes * (q + 1) ≤ 4 * lanes * 2 = mul-le-mul_left (4 * lanes) (omega arith) in
          absurd (omega arith)
      | inr over ↦ over
    ]

pub narrow : (lanes kib : ℕ) → lanes * (4 * (kib / (4 * lanes))) ≤ kib
narrow lanes kib = omega (arith, div-add-mod kib (4 * lanes))

-- a column of a lane is one of the blocks
pub offset_within : (lanes lane width column : ℕ) → lane < lanes → column < 4 * width
    → lane * (4 * width) + column < lanes * (4 * width)
offset_within lanes lane width column low inside =
    omega (arith, mul-le-mul_left (4 * width) (let next : lane + 1 ≤ lanes = omega arith in next))
