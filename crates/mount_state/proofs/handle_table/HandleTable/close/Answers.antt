use Rattle.std.proofs.Common.{rules, ◌≡◌, not, IfSome, sym, ap, ◌∙◌, subst}
use Rattle.std.proofs.lemmas.Fn.{filter_same}
use Rattle.mount_model.specs.PlainMount.{HandleList}
use Rattle.mount_model.specs.OpenHandles.{is_handle, node_of, without_handle}
use Rattle.mount_state.specs.Handles.{Handles, without, LosesOne}
use Rattle.mount_state.specs.KeptHandles.{opened_in, IsIndexed}
use Rattle.mount_state.proofs.LossLemmas.{loses_one}
use Rattle.mount_state.proofs.HandleLemmas.{index_taken}
use Rattle.mount_state.proofs.handle_table.HandleTable.close.Goals as goal

pub invariant_of-self : goal.invariant_of-self
invariant_of-self c =
    let left : c.retain.new.self.items ≡ without_handle c.args.caller c.args.number c.self.inside.live.items
    = filter_same _ (λ h. not (is_handle c.args.caller c.args.number h)) _ (λ x b f' k. search rules) _ _ c.retain.ensures.filtered in
    subst (λ (hs : HandleList). IsIndexed hs c.remove.new.self (opened_in c.self.inside.opened.entries)) (sym left)
    (index_taken c.self.inside.live.items c.self.inside.index c.remove.new.self (opened_in c.self.inside.opened.entries) c.args.caller c.args.number c.self.invariant c.remove.ensures.updates.0)

pub returns-clause-left : goal.returns-clause-left
returns-clause-left c =
    let left : c.retain.new.self.items ≡ without_handle c.args.caller c.args.number c.self.inside.live.items
    = filter_same _ (λ h. not (is_handle c.args.caller c.args.number h)) _ (λ x b f' k. search rules) _ _ c.retain.ensures.filtered in
    (λ i. record { live = left i; opened = opened_in c.self.inside.opened.entries })
    ∙ ap (λ (v : Handles). without v c.args.caller c.args.number) c.self.view_is

pub returns-clause-one : goal.returns-clause-one
returns-clause-one c =
    let left : c.retain.new.self.items ≡ without_handle c.args.caller c.args.number c.self.inside.live.items
    = filter_same _ (λ h. not (is_handle c.args.caller c.args.number h)) _ (λ x b f' k. search rules) _ _ c.retain.ensures.filtered in
    subst (λ (hs : HandleList). IfSome (node_of hs c.args.caller c.args.number) (LosesOne hs c.retain.new.self.items)) (ap (λ (v : Handles). v.live) c.self.view_is)
    (subst (λ (hs : HandleList). IfSome (node_of c.self.inside.live.items c.args.caller c.args.number) (LosesOne c.self.inside.live.items hs)) (sym left)
    (loses_one c.args.caller c.args.number c.self.inside.live.items (c.self.invariant.single c.args.caller c.args.number)))
