-- What the sources in memory do, call by call.
use Rattle.std.specs.Prelude.{ℕ, ◌≡◌, min, List, [], ◌∷◌, length, drop, Contains, Some}
use Rattle.fsc_outside.specs.Causes.{one_more}
use Rattle.fsc_outside.specs.Reads.{ReadCall, AreReads}
use Rattle.fsc_outside.specs.States.{SourceState, source_state}

-- a source in memory: the bytes left, the maximal number of bytes that a call gives, the numbers of the
-- calls that fail, how many calls were made, and how many failed
pub record Feed : Type 0 where
  pub left : List ℕ
  pub piece : ℕ
  pub fails : List ℕ
  pub calls : ℕ
  pub faults : ℕ

-- whether the next call is one that fails
abbrev pub FailsNext : Feed → Type 0
FailsNext feed = Contains feed.fails feed.calls

-- how many bytes the next call gives into a buffer of that length
abbrev pub next_count : Feed → ℕ → ℕ
next_count feed room = min (min feed.piece room) (length feed.left)

-- after a call that failed
abbrev pub after_failure : Feed → Feed
after_failure feed = record feed { calls = one_more feed.calls; faults = one_more feed.faults }

-- after a call that gave n bytes
abbrev pub after_read : Feed → ℕ → Feed
after_read feed n = record feed { left = drop n feed.left; calls = one_more feed.calls }

-- what is known of it
abbrev pub state_of_feed : Feed → SourceState
state_of_feed feed = source_state (Some feed.left) feed.faults

-- the count of calls after these calls, from the one before them
abbrev pub calls_after : List ReadCall → ℕ → ℕ
calls_after [] count = count
calls_after (call ∷ more) count = calls_after more (one_more count)

-- how calls change a source in memory: as they change any source, and each call is counted
pub record AreFeeds (old : Feed) (calls : List ReadCall) (new : Feed) : Type 0 where
  pub reads : AreReads (state_of_feed old) calls (state_of_feed new)
  pub counted : new.calls ≡ calls_after calls old.calls

-- what is known of a source of these bytes that never fails
abbrev pub steady : List ℕ → SourceState
steady bytes = source_state (Some bytes) 0
