use Rattle.std.proofs.Common.{rules, subst, sym}
use Rattle.call_history.specs.Entries.{entry}
use Rattle.turn_lock.specs.Passes.{PassView, IsMadeAt}
use Rattle.callers.proofs.TurnLemmas.{places_rise}
use Rattle.callers.proofs.taking_turns.ask_twice.Goals as goal

pub returns-in_err-next-clause-one : goal.returns-in_err-next-clause-one
returns-in_err-next-clause-one g c few =
    let answer = c.in_ok-answer.answer in (
      answer.place,
      answer.reply,
      subst
          (λ (pass : PassView g.row.M-Call.Denot g.row.M-Reply.Denot).
          IsMadeAt c.args.pass.now pass answer.place (entry c.args.pass.now.who c.args.first.now answer.reply))
          (sym c.in_err-next.ensures.worn.2) c.in_ok-answer.ensures.at,
    )

pub returns-clause-made : goal.returns-clause-made
returns-clause-made g c =
    let first = c.in_ok-answer.ensures.at in
    let second = c.in_ok-next.ensures.at in (
      c.call.new.pass,
      c.in_ok-answer.answer.place,
      c.in_ok-next.next.place,
      places_rise _ _ _ _ _ _ _ first second,
      first,
      subst
          (λ who. IsMadeAt c.call.new.pass c.call-2.new.pass c.in_ok-next.next.place
          (entry who c.args.second.now c.in_ok-next.next.reply))
          (search rules) second,
    )
