use Rattle.std.specs.Prelude.{◌≡◌, ◌++◌, take, drop}
use Rattle.argon_kdf.specs.Slices.{segments_of, zero_segments}
use Rattle.argon_kdf.proofs.wiping.wipe_segments.Given as goal

abbrev pub invariant-segments : goal.invariant-segments
invariant-segments l =
    segments_of l.segments
    ≡ zero_segments (take l.segment-index (segments_of l.fn.segments)) ++ drop l.segment-index (segments_of l.fn.segments)
