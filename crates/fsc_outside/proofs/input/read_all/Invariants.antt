use Rattle.std.proofs.Common.{◌≡◌, ◌+◌, ◌-◌, ◌≤◌, vec_len, []}
use Rattle.std.specs.Io.KnownBytes.{Consumes}
use Rattle.fsc_outside.specs.Reading.{AfterReading}
use Rattle.fsc_outside.proofs.input.read_all.Given as goal

abbrev pub invariant-reading : goal.invariant-reading
invariant-reading g l = record {
  given : Consumes (g.S.Source.state l.initial.source).left (g.S.Source.state l.source).left l.text.items;
  quiet : (g.S.Source.state l.source).faults ≡ (g.S.Source.state l.initial.source).faults;
  short : vec_len l.text ≤ l.limits.bytes + 1;
  calls : AfterReading l.limits (λ calls. g.S.Source.after_calls l.initial.source calls l.source) l.text.items [];
}

abbrev pub decreases-reading : goal.decreases-reading
decreases-reading g l = l.limits.bytes + 1 - vec_len l.text
