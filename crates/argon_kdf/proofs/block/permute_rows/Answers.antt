use Rattle.std.proofs.Common.{◌≡◌, ◌∙◌, ℕ, List, ap, sym, arith}
use Rattle.argon_kdf.specs.Blocks.{row_permuted}
use Rattle.argon_kdf.proofs.Squares.{first_rows_none, first_rows_next}
use Rattle.argon_kdf.proofs.block.permute_rows.Goals as goal

pub rows-init : goal.rows-init
rows-init c = sym (first_rows_none c.args.block.now)

pub rows-preserved : goal.rows-preserved
rows-preserved c =
    c.permute_row.ensures ∙ ap (λ (block : List ℕ). row_permuted block c.rows.i) c.rows.invariant
    ∙ sym (first_rows_next c.args.block.now c.rows.i)

pub returns : goal.returns
returns c =
    let done : c.rows.i ≡ 8 = omega arith in
    rw done at c.rows.invariant
