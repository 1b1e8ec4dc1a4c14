-- The calls of a source, one after another, and how they change it.
use Rattle.std.specs.Prelude.{ℕ, ◌≡◌, ◌<◌, List, [], ◌∷◌, ◌++◌, length, take, Result, Ok, Err}
use Rattle.std.specs.Io.KnownBytes.{Consumes}
use Rattle.fsc_outside.specs.Causes.{one_more}
use Rattle.fsc_outside.specs.States.{SourceState}

-- a call gave these bytes, none at the end, or for an empty piece; or it failed
pub data ReadCall : Type 0 where
  Gave : List ℕ → ReadCall
  Faulted : ReadCall

-- the call that has this result, with these bytes in the piece then
abbrev pub read_call : {E : Type 0} → List ℕ → Result ℕ E → ReadCall
read_call piece (Ok count) = Gave (take count piece)
read_call piece (Err _) = Faulted

-- the bytes that calls gave, together
abbrev pub bytes_of_calls : List ReadCall → List ℕ
bytes_of_calls [] = []
bytes_of_calls (Gave bytes ∷ more) = bytes ++ bytes_of_calls more
bytes_of_calls (Faulted ∷ more) = bytes_of_calls more

-- the count of faults after calls, from the one before them
abbrev pub faults_after : List ReadCall → ℕ → ℕ
faults_after [] count = count
faults_after (Gave bytes ∷ more) count = faults_after more count
faults_after (Faulted ∷ more) count = faults_after more (one_more count)

-- a call that gave at least a byte: it didn't fail, and neither was it at the end nor was its piece empty
abbrev pub ReturnsBytes : ReadCall → Type 0
ReturnsBytes (Gave bytes) = 0 < length bytes
ReturnsBytes Faulted = ⊥

-- how calls change a source: the bytes that they gave are no longer left, if those left are known, and
-- each call that failed is counted
pub record AreReads (old : SourceState) (calls : List ReadCall) (new : SourceState) : Type 0 where
  pub bytes : Consumes old.left new.left (bytes_of_calls calls)
  pub faults : new.faults ≡ faults_after calls old.faults
