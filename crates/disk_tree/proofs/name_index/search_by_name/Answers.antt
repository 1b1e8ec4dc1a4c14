-- The result is from the next entry, or from those after it.
use Rattle.std.proofs.Common.{◌≡◌, false, cond, Some, sym, ap, ◌∙◌}
use Rattle.std.specs.Str.{bytes_eq}
use Rattle.disk_tree.specs.Indexed.{OrderedEntries, oldest}
use Rattle.disk_tree.proofs.name_index.search_by_name.Goals as goal

pub each-preserved : goal.each-preserved
each-preserved c =
    let other : bytes_eq c.args.name.now c.in-Some.entry.now.0 ≡ false = ap (bytes_eq c.args.name.now) (sym c.as_slice.ensures) ∙ sym c.if-eq.ensures in
    sym (ap (λ (es : OrderedEntries). oldest es c.args.name.now) c.in-Some.ensures.steps
    ∙ ap (λ b. cond b (Some (c.in-Some.place, c.in-Some.entry.now.1)) (oldest c.next.new.self c.args.name.now)) other)
    ∙ c.each.invariant
