use Rattle.std.proofs.Common.{arith}
use Rattle.argon_kdf.proofs.Ranges.{some_pass, few_passes, some_lane, few_lanes, enough_kib, most_kib, wide}
use Rattle.argon_kdf.proofs.Ranges.{narrow}
use Rattle.argon_kdf.proofs.layout.Layout.new.Goals as goal

pub invariant_of-result : goal.invariant_of-result
invariant_of-result c =
    let costs = c.args.costs.now in
    let accepted = c.requires in
    record {
      some_pass = some_pass costs accepted;
      few_passes = few_passes costs accepted;
      some_lane = some_lane costs accepted;
      few_lanes = few_lanes costs accepted;
      wide = wide costs.lanes costs.kib (some_lane costs accepted) (enough_kib costs accepted);
      narrow = omega (arith, narrow costs.lanes costs.kib, most_kib costs accepted);
    }
