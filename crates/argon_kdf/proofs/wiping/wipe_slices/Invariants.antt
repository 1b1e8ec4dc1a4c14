use Rattle.std.specs.Prelude.{◌≡◌, ◌++◌, take, drop}
use Rattle.argon_kdf.specs.Slices.{slices_of, zero_slices}
use Rattle.argon_kdf.proofs.wiping.wipe_slices.Given as goal

abbrev pub invariant-slices : goal.invariant-slices
invariant-slices l =
    slices_of l.memory
    ≡ zero_slices (take l.segments-index (slices_of l.fn.memory)) ++ drop l.segments-index (slices_of l.fn.memory)
