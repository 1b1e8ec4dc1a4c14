use Rattle.std.proofs.Common.{◌≡◌, ◌∙◌, ℕ, List, ap, sym, arith}
use Rattle.argon_kdf.specs.Blocks.{row_permuted, transposed}
use Rattle.argon_kdf.proofs.Squares.{first_rows_none, first_rows_next, transposed-transposed}
use Rattle.argon_kdf.proofs.block.permute_columns.Goals as goal

pub columns-init : goal.columns-init
columns-init c = record { long = omega arith; permuted = sym (first_rows_none (transposed c.args.block.now)) }

pub columns-preserved : goal.columns-preserved
columns-preserved c = record {
  long = c.permute_column.array_long;
  permuted =
      c.permute_column.ensures ∙ ap (λ (block : List ℕ).
      row_permuted block c.columns.i) c.columns.invariant.permuted
      ∙ sym (first_rows_next (transposed c.args.block.now) c.columns.i);
}

pub returns : goal.returns
returns c =
    let done : c.columns.i ≡ 8 = omega arith in
    sym (transposed-transposed c.columns.block c.columns.invariant.long)
    ∙ ap transposed (rw done at c.columns.invariant.permuted)
