use Rattle.std.proofs.Common.{◌≡◌, ℕ, false, List, Option, ap, ◌∙◌}
use Rattle.policy_ctx.specs.declared.policy.Context.{Context}
use Rattle.plain_tree.specs.Nodes.{Link}
use Rattle.disk_tree.specs.declared.node.Body.TheVariants as stored
use Rattle.mount_model.specs.NewNodes.{inherited_context}
use Rattle.mount_model.specs.EncryptedNames.{lacks_key}
use Rattle.mount_state.specs.Stored.{stored_form}
use Rattle.mount_state.proofs.ContextLemmas.{same_some}
use Rattle.mount_names.proofs.LinkLemmas.{inherits_key}
use Rattle.mount_names.proofs.symlinks.link_at.Goals as goal

pub returns-in-Ok-from_slice-clause-represents : goal.returns-in-Ok-from_slice-clause-represents
returns-in-Ok-from_slice-clause-represents g c = λ m path st at short target well.
    let s = c.args.state.now in
    let context = c.context_of_new-context.result in
    let is = c.context_of_new-context.ensures in
    let holds : lacks_key m context ≡ false
    = ap (lacks_key m) is ∙ (inherits_key m c.args.nonce.now c.args.place.now.context ∙ (ap (lacks_key m) at.there.context ∙ at.there.keyed)) in
    let read : c.in-Ok.plain ≡ c.args.target.now = c.in-Ok.ensures.value ∙ c.as_slice.ensures in
    let form : c.in-Some.stored ≡ stored_form m.raws m.next (inherited_context c.args.nonce.now c.args.place.now.context) c.args.target.now
    = same_some _ _ (c.in-Some.ensures.value m st holds)
    ∙ (ap (λ (n : ℕ). stored_form m.raws n context c.in-Ok.plain) st.tree.next
    ∙ (ap (λ (o : Option Context). stored_form m.raws m.next o c.in-Ok.plain) is
    ∙ ap (stored_form m.raws m.next (inherited_context c.args.nonce.now c.args.place.now.context)) read)) in
    c.make.ensures.represents m path (Link c.args.target.now) st at short
    (ap (λ (b : List ℕ). stored.Link b) (c.from_vec.ensures ∙ (c.in-Ok-from_slice.ensures.items ∙ (c.bytes.ensures.value ∙ form)))) well
