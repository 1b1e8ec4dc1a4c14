use Rattle.std.proofs.Common.{◌≡◌, ◌∙◌, ℕ, [], ◌-◌, ◌*◌, ◌+◌, sym, arith, slice_index_or}
use Rattle.argon_kdf.specs.Blocks.{zero_block}
use Rattle.argon_kdf.specs.Shapes.{columns, shape}
use Rattle.argon_kdf.proofs.Standing.{Stands_read}
use Rattle.argon_kdf.proofs.Steps.{lanes_xored_none, lanes_xored_next}
use Rattle.argon_kdf.proofs.fill.last_column.Goals as goal

pub lanes-init : goal.lanes-init
unfolding zero_block
lanes-init c =
    λ table st. sym (lanes_xored_none (table (c.args.layout.passes - 1)) (columns (shape c.args.layout) - 1))

pub lanes-preserved : goal.lanes-preserved
lanes-preserved c = λ table st.
    let x = shape c.args.layout in
    let blocks = table (c.args.layout.passes - 1) in
    let last : ℕ = columns x - 1 in
    let at : c.offset.result ≡ c.lanes.lane * columns x + last =
    rw c.columns.ensures at c.offset.ensures.value in
    let read : slice_index_or c.args.memory.now c.offset.result [] ≡ blocks c.lanes.lane last =
    rw at (Stands_read x c.args.memory.now table c.args.layout.passes c.lanes.lane last c.lanes-test.true
    (omega arith) st) in
    c.xor_into.ensures ∙ rw (read, c.lanes.invariant table st)
    (sym (lanes_xored_next blocks last c.lanes.lane))
