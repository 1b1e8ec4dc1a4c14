-- The index has the place, and the record there is the one of that name.
use Rattle.std.proofs.Common.{ℕ, List, Some, sym, ap, ◌∙◌}
use Rattle.meta_files.proofs.KeptLemmas.{seen_None, seen_Some, not_absent}
use Rattle.meta_files.proofs.files.MetaFiles.load.Goals as goal

pub returns-in_default-clause-found : goal.returns-in_default-clause-found
returns-in_default-clause-found c =
    sym (seen_None c.args.self.now c.self.inside.records.items c.args.name.now c.self.view_is
    (sym (c.self.invariant c.args.name.now) ∙ sym c.in_default.ensures))

pub returns-clause-found : goal.returns-clause-found
returns-clause-found c =
    let kept =
    seen_Some c.args.self.now c.self.inside.records.items c.args.name.now c.self.view_is c.in-Some.place
    (sym (c.self.invariant c.args.name.now)
    ∙ sym c.in-Some.ensures) c.index-kept.result.now c.index-kept.ensures in
    ap (λ (b : List ℕ). Some (c.index-kept.result.now.version, b)) c.in_ok-bytes.ensures ∙ sym kept

pub returns-in_err-bytes-clause-absent : goal.returns-in_err-bytes-clause-absent
returns-in_err-bytes-clause-absent c = λ none.
    let kept =
    seen_Some c.args.self.now c.self.inside.records.items c.args.name.now c.self.view_is c.in-Some.place
    (sym (c.self.invariant c.args.name.now)
    ∙ sym c.in-Some.ensures) c.index-kept.result.now c.index-kept.ensures in
    absurd (not_absent _ _ kept none)
