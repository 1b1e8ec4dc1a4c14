-- What is known of a thing outside: its content for the caller, if that is known, and counts that never
-- fall.
use Rattle.std.specs.Prelude.{ℕ, List, Option}

-- a source: the bytes left, if they are known, and how often a call failed
pub record SourceState : Type 0 where
  pub left : Option (List ℕ)
  pub faults : ℕ

abbrev pub source_state : Option (List ℕ) → ℕ → SourceState
source_state left faults = record { left = left; faults = faults }

-- a sink: the bytes got, if they are known, and how often a call failed
pub record SinkState : Type 0 where
  pub got : Option (List ℕ)
  pub faults : ℕ

-- a seed source: the seed that comes next, if it is known, how often it was asked, and how often it
-- failed
pub record SeedState : Type 0 where
  pub next : Option (List ℕ)
  pub asked : ℕ
  pub faults : ℕ
