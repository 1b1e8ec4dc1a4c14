use Rattle.std.proofs.Common.{false, ◌≡◌, ◌+◌, ◌<◌, ◌^◌, length}
use Rattle.log_check.proofs.SayLemmas.{Stands}
use Rattle.log_check.proofs.expected.continuation_by_ways.Given as goal

-- a history that may reach the mount was read up to the place
abbrev pub invariant-lines : goal.invariant-lines
invariant-lines g l = record {
  ways : length l.ways ≡ length l.reading.callers.items;
  room : l.reading.place + length l.reading.rest.now < 2 ^ 64;
  read : Stands false g.T.OneThread.reached_by l.seed l.script l.text l.reading.place l.reading.rest.now l.reading.callers.items l.mount;
}

-- what is left to be read
abbrev pub decreases-lines : goal.decreases-lines
decreases-lines g l = length l.reading.rest.now
