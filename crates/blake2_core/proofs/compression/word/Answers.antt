use Rattle.std.proofs.Common.{ℕ, ◌*◌, ◌%◌, ◌<◌, [], arith, slice_index, slice_index_or, Fits, w64}
use Rattle.blake2_core.specs.Constants.{sigma}
use Rattle.blake2_core.proofs.Schedule.{sigma_low}
use Rattle.blake2_core.proofs.compression.word.Goals as goal

fits_times : (i : ℕ) → i < 16 → Fits w64 (i * 8)
fits_times i low = omega arith

pub offset_bounds-m-round : goal.offset_bounds-m-round
offset_bounds-m-round c =
    let r : ℕ = c.args.round % 10 in
    fits_times (slice_index (slice_index_or sigma r []) c.args.turn) (sigma_low r c.args.turn (omega arith))

pub bounds-m-round : goal.bounds-m-round
bounds-m-round c = sigma_low (c.args.round % 10) c.args.turn (omega arith)
