use Rattle.std.proofs.Common.{◌≡◌, false, rules, sym, ◌∙◌}
use Rattle.mount_model.specs.declared.reply.Reply.TheVariants.{Removed}
use Rattle.mount_keys.specs.KeyReplies.{reply_of_clearing}
use Rattle.mount_keys.proofs.FewerLemmas.{cleared_stand, cleared_nothing}
use Rattle.mount_keys.proofs.ToldLemmas.{clearing_gives}
use Rattle.mount_keys.proofs.clearings.remove_key_all.Goals as goal

pub returns-clause-gone : goal.returns-clause-gone
returns-clause-gone c = λ told.
    let idle : c.is_busy-busy.result ≡ false = cc in
    cleared_nothing c.args.state.now c.take_all_claims.new.state c.args.id.now c.take_all_claims.ensures.same
    (sym c.is_busy-busy.ensures.value ∙ idle) (c.is_busy-busy.ensures.modes idle)
    c.take_all_claims.ensures.taken

pub returns-clause-represents : goal.returns-clause-represents
returns-clause-represents c = λ m st.
    let told : Removed false c.is_busy-busy.result ≡ reply_of_clearing c.args.state.now c.args.uid
    c.args.id.now = search rules in
    clearing_gives c.args.state.now m st c.args.uid c.args.id.now c.take_all_claims.new.state false
    c.is_busy-busy.result told
    (cleared_stand c.args.state.now c.take_all_claims.new.state m c.args.id.now st
    c.take_all_claims.ensures.same c.take_all_claims.ensures.taken)
