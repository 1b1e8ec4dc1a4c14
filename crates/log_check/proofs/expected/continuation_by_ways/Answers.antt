use Rattle.std.proofs.Common.{refl, arith, sym, ◌∙◌, []}
use Rattle.fsc_session.proofs.Asked.{spelled-few, spelled-asked}
use Rattle.log_check.specs.Reading.{AreCallers}
use Rattle.log_check.proofs.DueLemmas.{is_due}
use Rattle.log_check.proofs.SayLemmas.{begins, goes_on}
use Rattle.log_check.proofs.expected.continuation_by_ways.Goals as goal

pub begin_callers-requires-clause-few : goal.begin_callers-requires-clause-few
begin_callers-requires-clause-few g c = spelled-few c.args.script.now c.requires.spelled

pub begin_callers-requires-clause-asked : goal.begin_callers-requires-clause-asked
begin_callers-requires-clause-asked g c = spelled-asked c.args.script.now c.requires.spelled

pub lines-init : goal.lines-init
lines-init g c =
    let are : AreCallers c.args.seed.now c.args.script.now [] c.in_ok-begin_callers.field-0.items = c.in_ok-begin_callers.ensures in
    record {
      ways = c.requires.ways ∙ sym are.many;
      room = omega arith;
      read = begins _ _ _ _ _ _ _ _ _ refl refl (g.met.T.OneThread.reached_lawful _ _ c.requires.reached_by) c.requires.reached_by are;
    }

pub returns-then-reading-place : goal.returns-then-reading-place
returns-then-reading-place g c = is_due _ _ _ _ _ _ _ _ _ _ c.if-reading-place.true c.lines.invariant.read c.in_ok-next.ensures

pub lines-preserved : goal.lines-preserved
lines-preserved g c = record {
  ways = c.lines.invariant.ways ∙ sym c.in_ok-read_line.ensures.many;
  room = c.in_ok-read_line.ensures.room;
  read = goes_on _ _ _ _ _ _ _ _ _ _ _ _ _ c.lines.invariant.read (rw c.if-not-branch.false at c.in_ok-read_line.ensures.read);
}
