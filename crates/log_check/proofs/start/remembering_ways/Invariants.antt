use Rattle.std.proofs.Common.{◌≡◌, All, length}
use Rattle.log_check.proofs.start.remembering_ways.Given as goal

abbrev pub invariant-ways : goal.invariant-ways
invariant-ways g l = record {
  ready : All g.S.Stretch.ready l.ways.items;
  many : length l.ways.items ≡ l.number;
}
