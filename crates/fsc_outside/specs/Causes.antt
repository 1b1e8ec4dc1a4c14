-- Whether a call outside failed: its count of faults shows it.
use Rattle.std.specs.Prelude.{ℕ, ◌≡◌, ◌+◌, ◌-◌, ◌^◌, ◌≤◌, min, Result}
use Rattle.std.specs.Prelude.{Option, IfOk, OnOk, OnErr, IfSome, List}

-- a count of faults or calls, one higher, unless it is the maximum of its type
abbrev pub one_more : ℕ → ℕ
one_more count = min (count + 1) (2 ^ 64 - 1)

-- the count rose by exactly one, or is the maximum of its type
abbrev pub Rose : ℕ → ℕ → Type 0
Rose before now = now ≡ one_more before

-- the count never falls, stays if the call succeeded, and rose by one if it failed
pub record HasCause {T E : Type 0} (before now : ℕ) (result : Result T E) : Type 0 where
  pub later : before ≤ now
  pub quiet : OnOk result (now ≡ before)
  pub failed : OnErr result (Rose before now)

-- a seed source gives the seed that is known as its next one, if one is known
abbrev pub GivesSeed : {E : Type 0} → Option (List ℕ) → Result (List ℕ) E → Type 0
GivesSeed told result = IfOk result (λ seed. IfSome told (λ next. seed ≡ next))
