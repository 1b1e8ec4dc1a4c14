use Rattle.std.proofs.Common.{sym, ◌∙◌}
use Rattle.entry_reader.proofs.GuessLemmas.{never_unread, kept_exactly, kept_back, kept_filled}
use Rattle.entry_reader.proofs.reader.read_entry.Goals as goal

pub returns-in-None : goal.returns-in-None
returns-in-None c =
    let none = sym c.in_ok-read.ensures ∙ c.in-None.is in
    record {
      exact = λ place e small is same. never_unread c.args.line.now place e small is same none;
      reads_back = λ place e small is same. never_unread c.args.line.now place e small is same none;
      filled = tt;
    }

pub returns-in_ok-kept-in-Some : goal.returns-in_ok-kept-in-Some
returns-in_ok-kept-in-Some c =
    let some = sym c.in_ok-read.ensures ∙ c.in-Some.is in
    let kept = c.in_ok-kept-in-Some in
    record {
      exact = kept_exactly c.args.line.now c.in-Some.read kept.kept some kept.ensures;
      reads_back = kept_back c.args.line.now c.in-Some.read kept.kept some kept.ensures;
      filled = kept_filled c.args.line.now c.in-Some.read kept.kept some kept.ensures;
    }
