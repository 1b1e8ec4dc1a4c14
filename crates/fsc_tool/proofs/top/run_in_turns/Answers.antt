use Rattle.fsc_tool.proofs.CheckLemmas as check
use Rattle.fsc_tool.proofs.InspectLemmas as inspect
use Rattle.fsc_tool.proofs.top.run_in_turns.Goals as goal

pub returns-in-Inspect-clause-run : goal.returns-in-Inspect-clause-run
returns-in-Inspect-clause-run g c =
    inspect.inspects _ _ _ _ _ _ _ _ (c.run_inspecting.ensures.inspected (g.E.SeedSource.state c.args.streams.now.seeds)) c.in-Inspect.is

pub returns-in-Inspect-clause-form : goal.returns-in-Inspect-clause-form
returns-in-Inspect-clause-form g c =
    inspect.never_usage _ _ _ _ _ (c.run_inspecting.ensures.inspected (g.E.SeedSource.state c.args.streams.now.seeds)).ends

pub returns-in-Check-clause-run : goal.returns-in-Check-clause-run
returns-in-Check-clause-run g c =
    check.checks _ _ _ _ _ _ _ _
    (c.run_checking.ensures.checked (g.K.Sink.state c.args.streams.now.sink) (g.E.SeedSource.state c.args.streams.now.seeds)) c.in-Check.is

pub returns-in-Check-clause-form : goal.returns-in-Check-clause-form
returns-in-Check-clause-form g c =
    check.never_usage _ _ _ _ _ _
    (c.run_checking.ensures.checked (g.K.Sink.state c.args.streams.now.sink) (g.E.SeedSource.state c.args.streams.now.seeds)).ends

pub returns-in-CheckStrictly-clause-run : goal.returns-in-CheckStrictly-clause-run
returns-in-CheckStrictly-clause-run g c =
    check.checks_strictly _ _ _ _ _ _ _ _
    (c.run_checking-in-CheckStrictly.ensures.checked (g.K.Sink.state c.args.streams.now.sink) (g.E.SeedSource.state c.args.streams.now.seeds)) c.in-CheckStrictly.is

pub returns-in-CheckStrictly-clause-form : goal.returns-in-CheckStrictly-clause-form
returns-in-CheckStrictly-clause-form g c =
    check.never_usage _ _ _ _ _ _
    (c.run_checking-in-CheckStrictly.ensures.checked (g.K.Sink.state c.args.streams.now.sink) (g.E.SeedSource.state c.args.streams.now.seeds)).ends
