use Rattle.std.proofs.Common.{◌%◌, ◌+◌, ◌^◌, ap, sym, ◌∙◌}
use Rattle.call_history.specs.Entries.{entry}
use Rattle.sum_machine.proofs.SumsMore.{sum_after-more, HasSums-more}
use Rattle.sum_machine.proofs.SumMachine.begin.Goals as goal

pub returns : goal.returns
returns c history reached_by =
    let sum = (c.args.self.now.total + c.args.number.now) % 2 ^ 64 in
    let last = entry c.args._who c.args.number.now sum in
    let so_far = ap (λ total. (total + c.args.number.now) % 2 ^ 64) reached_by.1 in
    (HasSums-more 0 history last reached_by.0 so_far, so_far ∙ sym (sum_after-more 0 history last))
