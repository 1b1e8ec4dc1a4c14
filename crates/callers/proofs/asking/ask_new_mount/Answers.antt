use Rattle.std.proofs.Common.{[], ◌∷◌, ap, sym, subst, ◌∙◌}
use Rattle.call_history.specs.Entries.{entry}
use Rattle.mount_model.specs.Lawful.{IsLawful}
use Rattle.mount_shared.specs.IsStateAfter.{IsStateAfter}
use Rattle.callers.proofs.asking.ask_new_mount.Goals as goal

pub returns : goal.returns
returns c =
    let port = c.port-port.ensures in
    let began = subst (λ mount. IsStateAfter [] mount.state) (sym (ap (λ view. view.machine) port ∙ c.new-2.ensures.machine)) c.in_ok-mount.ensures in
    let reached_by = c.call-next.ensures.after_calls.reached_by _ (c.call-answer.ensures.after_calls.reached_by [] began) in
    let who = ap (λ view. view.caller) port in
    record {
      lawful = subst (λ n. IsLawful (entry 0 c.args.first.now c.call-answer.result.reply ∷ entry n c.args.second.now c.call-next.result.reply ∷ []))
          (c.call-answer.ensures.caller ∙ who)
          (subst (λ n. IsLawful (entry n c.args.first.now c.call-answer.result.reply ∷ entry c.call-answer.new.self.caller c.args.second.now c.call-next.result.reply ∷ [])) who reached_by.lawful);
    }
