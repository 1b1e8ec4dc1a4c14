use Rattle.std.proofs.Common.{refl, ap, sym, ◌∙◌, subst, arith}
use Rattle.next_calls.specs.Callers.{CallerView}
use Rattle.log_check.proofs.ReadingLemmas.{TakesReply, blocked_unheard, blocked_unreplied, is_there, line_read, whose_within}
use Rattle.log_check.proofs.HeadLemmas.{behind_shorter}
use Rattle.log_check.proofs.reading.Reading.read_line.Goals as goal

pub returns-in_default-clause-read : goal.returns-in_default-clause-read
returns-in_default-clause-read g c =
    (refl, refl, refl, λ script whole h read stand. blocked_unheard _ _ _ script _ _ h _ _ (rw (c.as_slice.ensures.value, c.in_default.is) at c.in_ok-found.ensures) stand)

pub index-requires : goal.index-requires
index-requires g c =
    let within = whose_within _ _ _ c.in-Some.number c.in-Some.call (rw (c.as_slice.ensures.value, c.in-Some.is) at c.in_ok-found.ensures) in
    omega arith

pub returns-in_default-read_reply-clause-read : goal.returns-in_default-read_reply-clause-read
returns-in_default-read_reply-clause-read g c =
    let whose = rw (c.as_slice.ensures.value, c.in-Some.is) at c.in_ok-found.ensures in (
      refl,
      refl,
      refl,
      λ script whole h read stand. blocked_unreplied _ _ _ script _ _ h _ _ c.in-Some.number c.caller-caller.result c.in-Some.call (omega arith)
          (λ caller here. c.caller-caller.ensures ∙ ap (λ (v : CallerView). v.caller) (is_there c.args.self.now.callers.items c.in-Some.number c.index.result.now caller c.index.ensures here))
          whose (rw c.in_default-read_reply.is at c.in_ok-read_reply.ensures) stand,
    )

pub index_mut-requires : goal.index_mut-requires
index_mut-requires g c =
    let within = whose_within _ _ _ c.in-Some.number c.in-Some.call (rw (c.as_slice.ensures.value, c.in-Some.is) at c.in_ok-found.ensures) in
    omega arith

pub take-requires : goal.take-requires
take-requires g c =
    let within = whose_within _ _ _ c.in-Some.number c.in-Some.call (rw (c.as_slice.ensures.value, c.in-Some.is) at c.in_ok-found.ensures) in
    let ways = c.requires.ways in
    record { ready = subst g.S.Stretch.ready (sym c.index-ways-number.is) (c.requires.ready c.in-Some.number c.index-ways-number.result (omega arith)) }

pub returns-clause-room : goal.returns-clause-room
returns-clause-room g c =
    let read_reply = rw c.in-Some-read_reply.is at c.in_ok-read_reply.ensures in
    let shorter = behind_shorter _ _ _ _ read_reply.line in
    let room = c.requires.room in
    omega arith

pub returns-clause-read : goal.returns-clause-read
returns-clause-read g c =
    let whose = rw (c.as_slice.ensures.value, c.in-Some.is) at c.in_ok-found.ensures in
    let read_reply = rw c.in-Some-read_reply.is at c.in_ok-read_reply.ensures in
    let shorter = behind_shorter _ _ _ _ read_reply.line in
    let room = c.requires.room in (
      shorter,
      refl,
      λ script whole h read stand.
          line_read _ _ g.met.T.OneThread.reached_lawful _ script whole _ _ _ h _ _ _ _ c.in-Some.number c.caller-caller.result c.take.new.self c.in-Some.call c.in-Some-read_reply.reply (omega arith)
          (λ caller here. (
            c.caller-caller.ensures ∙ ap (λ (v : CallerView). v.caller) (is_there c.args.self.now.callers.items c.in-Some.number c.index.result.now caller c.index.ensures here),
            subst (λ (v : CallerView). TakesReply c.args.seed.now c.in-Some.call c.in-Some-read_reply.reply v c.take.new.self) (is_there c.args.self.now.callers.items c.in-Some.number c.index_mut.result.now caller c.index_mut.ensures.value here)
                (c.in_ok-take.ensures.caller, c.in_ok-take.ensures.section, c.in_ok-take.ensures.awaits),
          ))
          refl whose read_reply read stand,
    )
