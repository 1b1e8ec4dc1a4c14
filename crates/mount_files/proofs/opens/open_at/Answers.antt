use Rattle.std.proofs.Common.{rules, ◌≡◌, ℕ, false, true, Some, sym, ap, ◌∙◌}
use Rattle.number_map.specs.Numbered.{NumberedValues, get}
use Rattle.mount_model.specs.OpenAnswers.{is_link_at, is_out_of_handles, open_answer}
use Rattle.mount_model.specs.OpenHandles.{opens_of}
use Rattle.mount_model.specs.declared.reply.Reply.TheVariants.{Opened}
use Rattle.mount_model.specs.States.{is_keyed}
use Rattle.mount_files.proofs.OpenStands.{link_lies, out_stands, told_opened, open_well, opened_stands, opened_given}
use Rattle.mount_files.proofs.opens.open_at.Goals as goal

pub returns-in-Ok-clause-represents : goal.returns-in-Ok-clause-represents
returns-in-Ok-clause-represents c = λ m st there.
    let s = c.args.state.now in
    let found : get s.disk c.args.node ≡ Some c.in-Some.stored.now = search rules in
    let link : is_link_at m.nodes c.args.node ≡ false =
    sym (link_lies s.disk s.next_node m st.tree c.args.node c.in-Some.stored.now found) ∙ (sym c.is_link.ensures ∙ c.if-is_link.false) in
    let keyed : is_keyed m c.args.node ≡ true = sym (c.keyed.ensures.represents m st) ∙ c.if-not-keyed.false in
    let room : is_out_of_handles m c.args.caller ≡ false =
    sym (out_stands s.handles m st.handles c.args.caller) ∙ (sym c.is_full.ensures ∙ c.if-is_full.false) in
    opened_given m c.args.caller c.args.node (open_answer m c.args.caller c.args.node) c.in-Ok.number _
    (told_opened m c.args.caller c.args.node link keyed room)
    (c.in-Ok.ensures.number ∙ ap (λ (o : NumberedValues ℕ). opens_of o c.args.caller) st.handles.opened)
    (opened_stands s _ m c.args.caller c.args.node st c.in-Ok.ensures.opened (c.in-Ok.ensures.caches m st) c.in-Ok.ensures.names
    (open_well m c.args.caller c.args.node st.well there link room))

pub returns-in-Ok-clause-opened : goal.returns-in-Ok-clause-opened
returns-in-Ok-clause-opened c = λ fine. record {
  node = c.args.node;
  one = c.in-Ok.ensures.opened;
  number = ap Opened c.in-Ok.ensures.number;
}
