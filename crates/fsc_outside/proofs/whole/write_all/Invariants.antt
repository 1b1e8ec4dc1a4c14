use Rattle.std.proofs.Common.{◌≡◌, ◌-◌, ◌≤◌, length, take}
use Rattle.std.specs.Io.KnownBytes.{Appends}
use Rattle.fsc_outside.proofs.whole.write_all.Given as goal

abbrev pub invariant-writing : goal.invariant-writing
invariant-writing g l = record {
  taken : Appends (g.K.Sink.state l.initial.sink).got (g.K.Sink.state l.sink).got (take l.written l.text);
  quiet : (g.K.Sink.state l.sink).faults ≡ (g.K.Sink.state l.initial.sink).faults;
  within : l.written ≤ length l.text;
}

abbrev pub decreases-writing : goal.decreases-writing
decreases-writing g l = length l.text - l.written
