use Rattle.call_history.specs.Placed.{entries_of}
use Rattle.fsc_session.specs.Session.{section_steps}
use Rattle.fsc_session.proofs.LawLemmas.{next_calls, next_calls_reach}
use Rattle.fsc_session.proofs.laws.runs_are_next_calls.Goals as goal

pub returns : goal.returns
returns c seed caller section placed = (
  λ run. next_calls (section_steps seed caller section) (entries_of placed) run.0 run.1,
  λ next. next_calls_reach (section_steps seed caller section) (entries_of placed) next,
)
