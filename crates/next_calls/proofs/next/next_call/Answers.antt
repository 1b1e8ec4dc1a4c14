use Rattle.std.proofs.Common.{◌≡◌, ap, ◌∙◌, sym}
use Rattle.next_calls.proofs.NextLemmas.{is_end, is_call, has_room, same_listed, port_is}
use Rattle.next_calls.proofs.next.next_call.Goals as goal

pub following_call-requires : goal.following_call-requires
following_call-requires g c =
    let items = c.args.replies.now.items in
    let same : c.replace-listed.result.items ≡ items = ap (λ v. v.items) c.replace-listed.ensures.value in
    has_room _ _ _ _ _ _ _ _ items _ _ _ c.in-Asked.call _ _ (port_is _ _ _ _ items c.new-port.ensures same) (sym c.in-Asked.ensures.further) c.in_ok-outcome.ensures.made
    c.len-kept.ensures (c.len-count.ensures ∙ c.args.replies.now.ok.0)

pub returns-in-Unasked-clause-next : goal.returns-in-Unasked-clause-next
returns-in-Unasked-clause-next g c =
    let items = c.args.replies.now.items in
    let same : c.replace-listed.result.items ≡ items = ap (λ v. v.items) c.replace-listed.ensures.value in
    is_end _ _ _ _ _ _ _ _ _ _ _ _ (port_is _ _ _ _ items c.new-port.ensures same) (sym c.in-Unasked.ensures.further) c.in_ok-outcome.ensures.made

pub returns-in-Asked-clause-next : goal.returns-in-Asked-clause-next
returns-in-Asked-clause-next g c =
    let items = c.args.replies.now.items in
    let same : c.replace-listed.result.items ≡ items = ap (λ v. v.items) c.replace-listed.ensures.value in
    is_call _ _ _ _ _ _ _ _ _ items _ _ _ _ c.in-Asked.call _ (port_is _ _ _ _ items c.new-port.ensures same) (sym c.in-Asked.ensures.further) c.in_ok-outcome.ensures.made
    c.len-kept.ensures c.following_call.ensures.next c.following_call.ensures.kept

pub returns-in-Asked-clause-replies : goal.returns-in-Asked-clause-replies
returns-in-Asked-clause-replies g c =
    let items = c.args.replies.now.items in
    let same : c.replace-listed.result.items ≡ items = ap (λ v. v.items) c.replace-listed.ensures.value in
    same_listed _ _ _ _ _ _ _ _ _ items _ _ _ _ c.in-Asked.call _ _ (port_is _ _ _ _ items c.new-port.ensures same) (sym c.in-Asked.ensures.further) c.in_ok-outcome.ensures.made
    c.len-kept.ensures (c.len-count.ensures ∙ c.args.replies.now.ok.0) c.following_call.ensures.next c.following_call.ensures.replies
