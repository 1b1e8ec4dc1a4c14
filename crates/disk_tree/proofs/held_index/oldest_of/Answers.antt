-- The index has a place, and the entry there has the name or doesn't.
use Rattle.std.proofs.Common.{◌≡◌, true, false, cond, Some, None, sym, ap, ◌∙◌}
use Rattle.std.specs.Str.{bytes_eq}
use Rattle.disk_tree.specs.NameIndex.{hash_of}
use Rattle.disk_tree.specs.Indexed.{oldest_of_hash}
use Rattle.disk_tree.proofs.IndexLemmas.{unhashed, hashed_there, oldest_is}
use Rattle.disk_tree.proofs.held_index.oldest_of.Goals as goal

pub returns-in_default : goal.returns-in_default
returns-in_default c =
    sym (unhashed c.args.order.now c.args.name.now
    (ap (oldest_of_hash c.args.order.now) (sym c.requires.hash) ∙ sym (c.requires.named c.if-doubled.false c.args.hash) ∙ sym c.under_hash.ensures ∙ c.in_default.is))

pub returns-then-eq : goal.returns-then-eq
returns-then-eq c =
    let found : oldest_of_hash c.args.order.now (hash_of c.args.name.now) ≡ Some (c.in-Some.place, c.in-Some.number)
    = ap (oldest_of_hash c.args.order.now) (sym c.requires.hash) ∙ sym (c.requires.named c.if-doubled.false c.args.hash) ∙ sym c.under_hash.ensures ∙ c.in-Some.is in
    let named : bytes_eq c.args.name.now c.in-Some-get.entry.now.0 ≡ true = ap (bytes_eq c.args.name.now) (sym c.as_slice.ensures) ∙ sym c.if-eq.ensures in
    sym (oldest_is c.args.order.now c.args.name.now c.in-Some.place c.in-Some.number c.in-Some-get.entry.now c.len-count.ensures.rising (c.requires.apart c.if-doubled.false) found (sym c.in-Some-get.ensures)
    ∙ ap (λ b. cond b (Some (c.in-Some.place, c.in-Some.number)) None) named)

pub returns-else-eq : goal.returns-else-eq
returns-else-eq c =
    let found : oldest_of_hash c.args.order.now (hash_of c.args.name.now) ≡ Some (c.in-Some.place, c.in-Some.number)
    = ap (oldest_of_hash c.args.order.now) (sym c.requires.hash) ∙ sym (c.requires.named c.if-doubled.false c.args.hash) ∙ sym c.under_hash.ensures ∙ c.in-Some.is in
    let other : bytes_eq c.args.name.now c.in-Some-get.entry.now.0 ≡ false = ap (bytes_eq c.args.name.now) (sym c.as_slice.ensures) ∙ sym c.if-eq.ensures in
    sym (oldest_is c.args.order.now c.args.name.now c.in-Some.place c.in-Some.number c.in-Some-get.entry.now c.len-count.ensures.rising (c.requires.apart c.if-doubled.false) found (sym c.in-Some-get.ensures)
    ∙ ap (λ b. cond b (Some (c.in-Some.place, c.in-Some.number)) None) other)

pub returns-in-None : goal.returns-in-None
returns-in-None c =
    absurd (hashed_there c.args.order.now (hash_of c.args.name.now) c.in-Some.place c.in-Some.number c.len-count.ensures.rising
    (ap (oldest_of_hash c.args.order.now) (sym c.requires.hash) ∙ sym (c.requires.named c.if-doubled.false c.args.hash) ∙ sym c.under_hash.ensures ∙ c.in-Some.is) (sym c.in-None.ensures))
