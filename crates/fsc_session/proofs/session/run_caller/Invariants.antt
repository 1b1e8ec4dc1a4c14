use Rattle.std.proofs.Common.{◌≡◌, ◌≤◌, ◌+◌, ◌*◌}
use Rattle.fsc_session.specs.PortRuns.{RunSoFar}
use Rattle.fsc_session.proofs.session.run_caller.Given as goal

abbrev pub invariant-commands : goal.invariant-commands
invariant-commands g l = record {
  caller : l.runner.caller ≡ g.P.MountPort.who l.fn.port;
  port : g.P.MountPort.who l.port ≡ g.P.MountPort.who l.fn.port;
  section : l.runner.section ≡ l.section;
  next : l.runner.next ≡ l.number;
  room : g.P.MountPort.calls_left l.fn.port ≤ g.P.MountPort.calls_left l.port + 4 * l.number;
  ran : RunSoFar (g.P.MountPort.after_calls l.fn.port) l.port (g.P.MountPort.calls_left l.port) (g.P.MountPort.calls_left l.fn.port) l.seed l.runner;
}
