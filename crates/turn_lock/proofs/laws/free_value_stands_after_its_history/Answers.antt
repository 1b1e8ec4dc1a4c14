use Rattle.std.proofs.Common.{ap, sym, ◌∙◌, slice_index}
use Rattle.turn_lock.specs.Standing.{standing}
use Rattle.turn_lock.proofs.laws.free_value_stands_after_its_history.Goals as goal

pub returns : goal.returns
returns g c numbers allowance s kept free =
    let home = kept.free (sym (ap (λ ws. slice_index ws 0) kept.words) ∙ free) in (
      standing home.0 kept.history,
      record {
        home = home.1;
        is_reached = home.2;
        right = g.met.M.Machine.reaches_lawful kept.history home.0 home.2;
        counted = ap (λ ws. slice_index ws 1) kept.words;
        seen = λ j v there. (kept.each j v there).begins;
        entries = λ j v there. (kept.each j v there).own;
      },
    )
