use Rattle.std.proofs.Common.{arith}
use Rattle.next_calls.proofs.BackLemmas.{taken_more}
use Rattle.next_calls.proofs.back.take_back.Goals as goal

pub listed-preserved-in-Continue-1 : goal.listed-preserved-in-Continue-1
listed-preserved-in-Continue-1 c =
    let longer = c.listed-test.true in
    let long = c.len-in-listed.ensures in
    taken_more c.args.entries.now c.listed.entries c.pop-in-listed.new.self c.listed.replies.items c.push.new.self.items c.args.kept c.args.count
    c.in-Some.field-0-0 c.in-Some.entry c.reply_of.result c.listed.invariant c.in-Some.ensures.last (omega (arith, longer, long)) c.reply_of.ensures c.in_ok-push.ensures.items
