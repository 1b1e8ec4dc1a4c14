use Rattle.std.proofs.Common.{◌≡◌, sym, ap, ◌∙◌}
use Rattle.plain_tree.specs.NodesByNumber.{context_at}
use Rattle.mount_model.specs.MoveRefusal.{may_hold}
use Rattle.mount_names.specs.Places.{Entry, Place}
use Rattle.mount_names.proofs.MoveLemmas.{may_stay}
use Rattle.mount_names.proofs.targets.may_come.Goals as goal

pub returns-then-place-entry : goal.returns-then-place-entry
returns-then-place-entry c = λ m old st of at.
    let e = c.args.entry.now in
    let here : c.args.place.now.dir ≡ e.dir
    = ap (λ (p : Place). p.dir) (sym c.place.view_is) ∙ c.if-place-entry.true ∙ (λ i. (c.entry.view_is i).dir) in
    sym ((λ i. may_hold (context_at m.nodes (here i)) (context_at m.nodes e.number)) ∙ may_stay m st.well old e of)

pub returns : goal.returns
returns c = λ m old st of at.
    let e = c.args.entry.now in
    let dir : c.place.inside.context ≡ context_at m.nodes c.args.place.now.dir
    = ap (λ (p : Place). p.context) c.place.view_is ∙ at in
    let held : c.context_at.result ≡ context_at m.nodes e.number
    = c.context_at.ensures m st ∙ ap (λ (x : Entry). context_at m.nodes x.number) c.entry.view_is in
    c.may_hold.ensures ∙ (λ i. may_hold (dir i) (held i))
