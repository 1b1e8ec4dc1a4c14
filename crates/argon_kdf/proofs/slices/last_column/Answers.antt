use Rattle.std.proofs.Common.{◌≡◌, ◌∙◌, ℕ, ◌-◌, sym, ap, arith}
use Rattle.argon_kdf.specs.Blocks.{zero_block}
use Rattle.argon_kdf.specs.Shapes.{columns, shape}
use Rattle.argon_kdf.specs.Slices.{slices_of}
use Rattle.argon_kdf.specs.SeenBlocks.{block_at}
use Rattle.argon_kdf.proofs.SliceLemmas.{has_slice, slice_low}
use Rattle.argon_kdf.proofs.Standing.{Shows_read}
use Rattle.argon_kdf.proofs.Steps.{lanes_xored_none, lanes_xored_next}
use Rattle.argon_kdf.proofs.slices.last_column.Goals as goal

pub block_at-requires-clause-slice : goal.block_at-requires-clause-slice
block_at-requires-clause-slice c =
    let x = shape c.args.layout in
    has_slice x (slices_of c.args.memory.now) 4 _ c.requires
    (slice_low x _ (omega (arith, c.args.layout.wide)) (omega (arith, c.columns.ensures, c.args.layout.wide)))

pub lanes-init : goal.lanes-init
unfolding zero_block
lanes-init c =
    λ table st. sym (lanes_xored_none (table (c.args.layout.passes - 1)) (columns (shape c.args.layout) - 1))

pub lanes-preserved : goal.lanes-preserved
lanes-preserved c = λ table st.
    let x = shape c.args.layout in
    let blocks = table (c.args.layout.passes - 1) in
    let last : ℕ = columns x - 1 in
    let read : c.block_at.result.now ≡ blocks c.lanes.lane last =
    c.block_at.ensures
    ∙ ap (λ (z : ℕ). block_at x (slices_of c.args.memory.now) c.lanes.lane (z - 1)) c.columns.ensures
    ∙ Shows_read x (block_at x (slices_of c.args.memory.now)) table c.args.layout.passes c.lanes.lane last c.lanes-test.true
    (omega (arith, c.args.layout.wide)) st in
    c.xor_into.ensures ∙ rw (read, c.lanes.invariant table st)
    (sym (lanes_xored_next blocks last c.lanes.lane))
