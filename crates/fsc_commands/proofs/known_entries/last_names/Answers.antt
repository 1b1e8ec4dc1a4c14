use Rattle.std.proofs.Common.{◌≡◌, ◌+◌, ◌-◌, length, take, refl, ap, sym, ◌∙◌, arith}
use Rattle.fsc_commands.specs.Steps.{names_in}
use Rattle.fsc_commands.proofs.ToldLemmas.{last_is, last_before}
use Rattle.fsc_commands.proofs.known_entries.last_names.Goals as goal

pub returns-in-Some : goal.returns-in-Some
returns-in-Some c =
    sym (c.entries.invariant ∙ last_is c.args.told.now c.entries.k (length c.args.told.now - 1 - c.entries.k) c.index-told-index.result c.in-Some.names.now
    c.entries-test.true refl c.index-told-index.is (sym c.in-Some.ensures))

pub entries-preserved : goal.entries-preserved
entries-preserved c =
    let next : length c.args.told.now - 1 - c.entries.k ≡ length c.args.told.now - (c.entries.k + 1) = omega arith in
    c.entries.invariant ∙ last_before c.args.told.now c.entries.k (length c.args.told.now - 1 - c.entries.k) c.index-told-index.result c.entries-test.true refl c.index-told-index.is
    (sym c.in_default.ensures)
    ∙ ap (λ n. names_in (take n c.args.told.now)) next
