use Rattle.byte_words.specs.Bytes.{AreBytes}
use Rattle.std.proofs.Common.{subst, length, arith, ◌++◌, ◌∙◌, sym, ◌-◌, ◌+◌, ◌≡◌, ap}
use Rattle.std.proofs.lemmas.List.{length-take-le}
use Rattle.short_bytes.proofs.FilledLemmas.{appended, appended_front}
use Rattle.short_bytes.proofs.filled.Filled.append.Goals as goal

pub invariant_of-self : goal.invariant_of-self
invariant_of-self g c =
    let seen : length c.args.self.now ≡ c.self.inside.len =
    sym (ap length c.self.view_is) ∙ length-take-le c.self.inside.len c.self.inside.places (omega (arith, c.self.invariant.0, c.self.invariant.1)) in
    appended g.row.N c.self.inside.len (c.self.inside.len + length c.args.more.now - c.self.inside.len) (length c.args.more.now)
    c.self.inside.places c.copy_from_slice.new.self (omega (arith, seen, c.requires)) c.self.invariant.1 c.self.invariant.2
    (ap length c.copy_from_slice.ensures.after) (omega arith) c.self.invariant.3
    (subst AreBytes (sym c.copy_from_slice.ensures.after) (λ i. omega (arith, c.type_inv.more i)))

pub returns : goal.returns
returns g c =
    appended_front c.self.inside.len (c.self.inside.len + length c.args.more.now - c.self.inside.len) (length c.args.more.now)
    c.self.inside.places c.copy_from_slice.new.self (omega arith) (ap length c.copy_from_slice.ensures.after)
    ∙ (λ i. c.self.view_is i ++ c.copy_from_slice.ensures.after i)
