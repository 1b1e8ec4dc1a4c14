use Rattle.std.proofs.Common.{◌≡◌, sym, ◌∙◌}
use Rattle.mount_model.specs.MoveRefusal.{is_full_elsewhere}
use Rattle.mount_names.proofs.MoveLemmas.{below_itself, other_policy, clash_there, full_there, nothing_against}
use Rattle.mount_names.proofs.targets.why_not.Goals as goal

pub returns-then-past : goal.returns-then-past
returns-then-past c = λ m old name st named of at.
    sym (below_itself m c.args.entry.now c.args.place.now.dir c.args.past name at.keyed at.free c.if-past.true)

pub returns-then-not-may_come : goal.returns-then-not-may_come
returns-then-not-may_come c = λ m old name st named of at.
    let e = c.args.entry.now in
    let p = c.args.place.now in
    let holds = c.may_come.ensures m old st of at.context in
    sym (other_policy m e p.dir c.args.past name at.keyed at.free c.if-past.false
    (sym holds ∙ c.if-not-may_come.true))

pub returns-then-clashes : goal.returns-then-clashes
returns-then-clashes c = λ m old name st named of at.
    let e = c.args.entry.now in
    let p = c.args.place.now in
    let holds = c.may_come.ensures m old st of at.context in
    let clash = c.clashes.ensures m name st named at in
    sym (clash_there m e p.dir c.args.past name at.keyed at.free c.if-past.false
    (sym holds ∙ c.if-not-may_come.false) (sym clash ∙ c.if-clashes.true))

pub returns-then-is_full_elsewhere : goal.returns-then-is_full_elsewhere
returns-then-is_full_elsewhere c = λ m old name st named of at.
    let e = c.args.entry.now in
    let p = c.args.place.now in
    let holds = c.may_come.ensures m old st of at.context in
    let clash = c.clashes.ensures m name st named at in
    let full : c.is_full_elsewhere.result ≡ is_full_elsewhere m e.dir p.dir
    = c.is_full_elsewhere.ensures m st ∙ (λ i. is_full_elsewhere m (c.entry.view_is i).dir (c.place.view_is i).dir) in
    sym (full_there m e p.dir c.args.past name at.keyed at.free c.if-past.false
    (sym holds ∙ c.if-not-may_come.false) (sym clash ∙ c.if-clashes.false)
    (sym full ∙ c.if-is_full_elsewhere.true))

pub returns : goal.returns
returns c = λ m old name st named of at.
    let e = c.args.entry.now in
    let p = c.args.place.now in
    let holds = c.may_come.ensures m old st of at.context in
    let clash = c.clashes.ensures m name st named at in
    let full : c.is_full_elsewhere.result ≡ is_full_elsewhere m e.dir p.dir
    = c.is_full_elsewhere.ensures m st ∙ (λ i. is_full_elsewhere m (c.entry.view_is i).dir (c.place.view_is i).dir) in
    sym (nothing_against m e p.dir c.args.past name at.keyed at.free c.if-past.false
    (sym holds ∙ c.if-not-may_come.false) (sym clash ∙ c.if-clashes.false)
    (sym full ∙ c.if-is_full_elsewhere.false))
