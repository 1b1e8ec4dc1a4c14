-- The seed of a run, and how often the seed source is asked for it.
use Rattle.std.specs.Prelude.{◌≡◌, ℕ, List, length, replicate, IfSome, Result, Ok, Err}
use Rattle.fsc_outside.specs.Causes.{Rose, one_more}
use Rattle.fsc_outside.specs.States.{SeedState}
use Rattle.fsc_outside.specs.declared.Failed.{Failed}
use Rattle.fsc_tool.specs.declared.form.Seeding.{Seeding}
use Rattle.fsc_tool.specs.declared.form.Seeding.TheVariants.{Given, Asked}

-- the seed source was asked just once and gave this seed: its next one, if that is known
pub record ReadSeed (old new : SeedState) (seed : List ℕ) : Type 0 where
  pub told : IfSome old.next (λ next. seed ≡ next)
  pub asked : new.asked ≡ one_more old.asked
  pub quiet : new.faults ≡ old.faults

-- the seed source was asked just once and failed
pub record FailedSeed (old new : SeedState) : Type 0 where
  pub asked : new.asked ≡ one_more old.asked
  pub cause : Rose old.faults new.faults

-- the arguments' own seed, for which the seed source isn't asked, or else one that it gave
abbrev pub ComesFrom : Seeding → SeedState → SeedState → List ℕ → Type 0
ComesFrom (Given own) old new seed = (seed ≡ own) × (new ≡ old)
ComesFrom Asked old new seed = ReadSeed old new seed

-- the seed of a run, of 32 bytes
pub record IsSeedOf (seeding : Seeding) (old new : SeedState) (seed : List ℕ) : Type 0 where
  pub given : ComesFrom seeding old new seed
  pub size : length seed ≡ 32

-- what taking the seed returns: a failure only if the seed source is asked
abbrev pub TakesSeed : Seeding → SeedState → SeedState → Result (List ℕ) Failed → Type 0
TakesSeed seeding old new (Ok seed) = IsSeedOf seeding old new seed
TakesSeed seeding old new (Err _) = (seeding ≡ Asked) × FailedSeed old new

-- the arguments' own seed with zeros in its place
abbrev pub wiped_seeding : Seeding → Seeding
wiped_seeding (Given own) = Given (replicate 32 0)
wiped_seeding Asked = Asked
